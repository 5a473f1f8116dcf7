-- Laws of a token of a code line, and of the loop that reads a line to its end.
use mathlib.Core.Path.{◌≡◌, refl, sym, subst, ap, ◌∙◌}
use mathlib.Core.Bool.{Bool, true, false}
use mathlib.Core.List.{[], ◌∷◌}
use Prim.Native.Nat.{ℕ, ◌+◌, ◌-◌, ◌≤◌, ◌<◌}
use native.Mathlib.Omega.{arith}
use borrow.Author.Tests.{eq-eqb, ne_eqb}
use lib.Dec.{eqb}
use lib.Seq.{drop-cons}
use lib.ListN.{length, get_or, take, drop, length-drop}
use Rattle.model.specs.Text.{Bytes}
use Rattle.model.specs.Code as Code
use Rattle.model.specs.declared.Marks.{Marks}
use Rattle.model.specs.declared.Effect.{Effect}
use Rattle.model.proofs.Choices.{when_true, when_false}
use Rattle.std.specs.Prelude.{Option, Some, None, unwrap_or}
use Rattle.std.proofs.lemmas.List.{nil_from_length, take_rest, drop-drop, get_or-drop}
use Rattle.code.specs.declared.Part.{Part}
use Rattle.code.specs.declared.Part.TheVariants.{Byte}
use Rattle.code.specs.declared.Ending.{Ending}
use Rattle.code.specs.declared.Ending.TheVariants.{Offer, Malformed}
use Rattle.code.specs.declared.Token.{Token}
use Rattle.code.specs.declared.Token.TheVariants.{Ends, Has}
use Rattle.code.specs.Tokens.{ending_of, part_of, token_code, Ranged, RangedPart, RangedToken, said, Says, Forms, ReadsToken, ReadsEnding, Affects}

-- ---- one token

-- a list whose first byte is known
first_is : (s : Bytes) → 1 ≤ length s → s ≡ get_or s 0 0 ∷ drop 1 s
first_is s h = drop-cons s 0 0 (omega arith)

module _ (m : Marks) (first : Bool) where
  parse_byte : (x : ℕ) (s : Bytes) → eqb x m.escape ≡ false → Code.parse m first (x ∷ s) ≡ Code.onto (Code.byte x) (Code.parse m false s)
  unfolding Code.parse
  parse_byte x [] e = when_false _ _ e
  parse_byte x (a ∷ []) e = when_false _ _ e
  parse_byte x (a ∷ b ∷ s) e = when_false _ _ e

  parse_short : (x : ℕ) (s : Bytes) → eqb x m.escape ≡ true → length s < 2 → Code.parse m first (x ∷ s) ≡ Code.only Code.malformed
  unfolding Code.parse
  parse_short x [] e h = when_true _ _ e
  parse_short x (a ∷ []) e h = when_true _ _ e
  parse_short x (a ∷ b ∷ s) e h = absurd (omega arith)

  -- after an escape and two bytes
  abbrev formed : Code.Form → Bytes → Code.Code
  formed f s = elim f as (λ _. Code.Code) [ Code.ends k ↦ Code.only k | Code.part p ↦ Code.onto p (Code.parse m false s) ]

  parse-form : (x a b : ℕ) (s : Bytes) → eqb x m.escape ≡ true → Code.parse m first (x ∷ a ∷ b ∷ s) ≡ formed (Code.form m first a b s) s
  unfolding Code.parse
  parse-form x a b s e = when_true _ _ e

-- the bytes of a line from `at` on, as the slice of it
module _ (line : Bytes) (at : ℕ) where
  abbrev pub here : Bytes
  here = take (length line - at) (drop at line)

  pub long : {n : ℕ} → n ≤ length here → 1 ≤ n → at + n ≤ length line
  long h k = omega (arith, length-drop at line, ap length (take_rest line at))

  -- what follows the first ones
  pub behind : (n : ℕ) → drop n here ≡ drop (at + n) line
  behind n = ap (λ s. drop n s) (take_rest line at) ∙ drop-drop n at line

  -- the first one
  pub leads : get_or here 0 0 ≡ get_or line at 0
  leads = ap (λ s. get_or s 0 0) (take_rest line at) ∙ get_or-drop at line 0 0 ∙ ap (λ i. get_or line i 0) (omega arith)

  pub after : take (length here - 3) (drop 3 here) ≡ drop (at + 3) line
  after = take_rest here 3 ∙ behind 3

-- a list of three bytes or more
three : (s : Bytes) → 3 ≤ length s → s ≡ get_or s 0 0 ∷ get_or s 1 0 ∷ get_or s 2 0 ∷ take (length s - 3) (drop 3 s)
three s h =
    let third = drop-cons s 2 0 (omega arith) ∙ ap (λ t. get_or s 2 0 ∷ t) (sym (take_rest s 3)) in
    let second = drop-cons s 1 0 (omega arith) ∙ ap (λ t. get_or s 1 0 ∷ t) third in
    first_is s (omega arith) ∙ ap (λ t. get_or s 0 0 ∷ t) second

-- what a line says from `at` on, by the slice's bytes
parsed : (m : Marks) (line : Bytes) (at : ℕ) (first : Bool) {s : Bytes} → here line at ≡ s → Code.parse m first (drop at line) ≡ Code.parse m first s
parsed m line at first e = ap (λ s. Code.parse m first s) (sym (take_rest line at) ∙ e)

module _ {m : Marks} {line : Bytes} {at : ℕ} {first : Bool} where
  pub token_end : length (here line at) < 1 → ReadsToken m line at first (Ends Offer)
  unfolding Code.parse
  token_end h = record { is = parsed m line at first (nil_from_length _ (omega arith)); ranged = tt }

  pub token_byte : 1 ≤ length (here line at) → (get_or (here line at) 0 0 ≡ m.escape → ⊥) → ReadsToken m line at first (Has (Byte (get_or (here line at) 0 0)) (at + 1))
  token_byte h n =
      let k = long line at h (omega arith) in
      record {
        is = parsed m line at first (first_is _ h) ∙ parse_byte m first _ _ (ne_eqb _ _ n)
            ∙ ap (λ s. Code.onto (Code.byte (get_or (here line at) 0 0)) (Code.parse m false s)) (behind line at 1);
        ranged = (tt, (omega arith, omega arith));
      }

  pub token_short : at < length line → get_or line at 0 ≡ m.escape → length (here line at) < 3 → ReadsToken m line at first (Ends Malformed)
  token_short h e l =
      let k : 1 ≤ length (here line at) = omega (arith, length-drop at line, ap length (take_rest line at)) in
      record {
        is = parsed m line at first (first_is _ k) ∙ parse_short m first _ _ (eq-eqb _ _ (leads line at ∙ e)) (omega (arith, length-drop 1 (here line at)));
        ranged = tt;
      }

-- what is read where nothing is
said_is : (line : Bytes) (k : Option Ending) → said (ending_of line) k ≡ ending_of line (unwrap_or k Malformed)
said_is line None = refl
said_is line (Some k) = refl

says_ranged : {line : Bytes} {f : Code.Form} (k : Option Ending) → Says line f k → Ranged line (unwrap_or k Malformed)
says_ranged None s = tt
says_ranged (Some k) s = s.ranged

-- the form after an escape, and the function where it is an F
module _ (m : Marks) (line : Bytes) (at : ℕ) (first : Bool) where
  abbrev form_here : Code.Form
  form_here = Code.form m first (get_or (here line at) 1 0) (get_or (here line at) 2 0) (drop (at + 3) line)

  abbrev function_here : Code.Form
  function_here = Code.function m first (get_or (here line at) 2 0) (take (length (here line at) - 3) (drop 3 (here line at)))

  function_is : get_or (here line at) 1 0 ≡ 70 → form_here ≡ function_here
  unfolding Code.form
  function_is w = when_true _ _ (eq-eqb _ _ w) ∙ ap (λ s. Code.function m first (get_or (here line at) 2 0) s) (sym (after line at))

  module _ (l : 3 ≤ length (here line at)) (e : get_or line at 0 ≡ m.escape) where
    form_is : {f : Code.Form} → form_here ≡ f → Code.parse m first (drop at line) ≡ formed m first f (drop (at + 3) line)
    form_is q =
        parsed m line at first (three (here line at) l) ∙ parse-form m first _ _ _ _ (eq-eqb _ _ (leads line at ∙ e))
        ∙ ap (λ s. formed m first (Code.form m first (get_or (here line at) 1 0) (get_or (here line at) 2 0) s) s) (after line at)
        ∙ ap (λ g. formed m first g (drop (at + 3) line)) q

    token_formed : (f : Option Token) → Forms line (at + 3) form_here f → ReadsToken m line at first (unwrap_or f (Ends Malformed))
    token_formed None g = record { is = form_is g.is; ranged = tt }
    token_formed (Some (Ends k)) g = record { is = form_is g.is; ranged = g.ranged }
    token_formed (Some (Has p i)) g =
        let k = long line at l (omega arith) in
        record {
          is = form_is g.is ∙ ap (λ j. Code.onto (part_of p) (Code.parse m false (drop j line))) (sym g.ranged.1);
          ranged = (g.ranged.0, (omega (arith, g.ranged.1), omega (arith, g.ranged.1)));
        }

    token_function : get_or (here line at) 1 0 ≡ 70 → (f : Option Ending) {k : Ending} → Says line function_here f → k ≡ unwrap_or f Malformed → ReadsToken m line at first (Ends k)
    token_function w f s q =
        subst (λ (x : Ending). ReadsToken m line at first (Ends x)) (sym q) (record { is = form_is (function_is w ∙ s.is ∙ ap Code.ends (said_is line f)); ranged = says_ranged f s })

module _ {m : Marks} {line : Bytes} {at : ℕ} {first : Bool} (l : 3 ≤ length (here line at)) (e : get_or line at 0 ≡ m.escape) where
  pub token_form : {f : Option Token} {r : Token} → (at + 3 ≤ length line → Forms line (at + 3) (form_here m line at first) f) → r ≡ unwrap_or f (Ends Malformed) → ReadsToken m line at first r
  token_form {f} g q = subst (λ (x : Token). ReadsToken m line at first x) (sym q) (token_formed m line at first l e f (g (long line at l (omega arith))))

  pub token_first : {f : Option Ending} {k : Ending} → get_or (here line at) 1 0 ≡ 70 → first ≡ true → Says line (function_here m line at true) f → k ≡ unwrap_or f Malformed → ReadsToken m line at first (Ends k)
  token_first {f} {k} w z s q = subst (λ (b : Bool). ReadsToken m line at b (Ends k)) (sym z) (token_function m line at true l e w f s q)

  pub token_later : {f : Option Ending} {k : Ending} → get_or (here line at) 1 0 ≡ 70 → first ≡ false → Says line (function_here m line at false) f → k ≡ unwrap_or f Malformed → ReadsToken m line at first (Ends k)
  token_later {f} {k} w z s q = subst (λ (b : Bool). ReadsToken m line at b (Ends k)) (sym z) (token_function m line at false l e w f s q)

-- ---- what callers take from a token

module _ {m : Marks} {line : Bytes} {at : ℕ} {first : Bool} {r : Token} (s : ReadsToken m line at first r) where
  has_ranged : {p : Part} {e : ℕ} → r ≡ Has p e → RangedPart p × ((at < e) × (e ≤ length line))
  has_ranged q = subst (λ (x : Token). RangedToken line at x) q s.ranged

  ends_ranged : {k : Ending} → r ≡ Ends k → Ranged line k
  ends_ranged q = subst (λ (x : Token). RangedToken line at x) q s.ranged

  -- the rest starts after the token, within the line
  pub has_after : {p : Part} {e : ℕ} → r ≡ Has p e → at < e
  has_after q = (has_ranged q).1.0

  pub has_within : {p : Part} {e : ℕ} → r ≡ Has p e → e ≤ length line
  has_within q = (has_ranged q).1.1

  -- what the line says: what the token does, and the rest
  pub says_ends : {k : Ending} → r ≡ Ends k → Code.parse m first (drop at line) ≡ Code.only (ending_of line k)
  says_ends q = s.is ∙ ap (λ x. token_code m line x) q

  -- the rest is no line's start
  pub says_has : {p : Part} {e : ℕ} → r ≡ Has p e → Code.parse m first (drop at line) ≡ Code.onto (part_of p) (Code.parse m (eqb e 0) (drop e line))
  says_has {p} {e} q =
      let h = has_after q in
      s.is ∙ ap (λ x. token_code m line x) q ∙ ap (λ b. Code.onto (part_of p) (Code.parse m b (drop e line))) (sym (ne_eqb e 0 (λ z. omega arith)))

-- ---- reading to the end

-- the line from `at` on ends as the whole line does
pub record Ahead (m : Marks) (line : Bytes) (at : ℕ) : Type 0 where
  pub is : (Code.parse m true line).ending ≡ (Code.parse m (eqb at 0) (drop at line)).ending
  pub within : at ≤ length line

module _ {m : Marks} {line : Bytes} {at : ℕ} {r : Token} (a : Ahead m line at) (s : ReadsToken m line at (eqb at 0) r) where
  pub ahead_more : {p : Part} {e : ℕ} → r ≡ Has p e → Ahead m line e
  unfolding Code.onto
  ahead_more q = record { is = a.is ∙ ap (λ c. c.ending) (says_has s q); within = has_within s q }

  pub ahead_ends : {k : Ending} → r ≡ Ends k → ReadsEnding m line k
  unfolding Code.only
  ahead_ends q = record { is = a.is ∙ ap (λ c. c.ending) (says_ends s q); ranged = ends_ranged s q }

-- its effect is that of its ending
pub effect_as : {m : Marks} {line : Bytes} {k : Ending} {r : Effect} → ReadsEnding m line k → ((s : Bytes) → r ≡ Code.effect_of (ending_of s k)) → Affects m line r
unfolding Code.effect
effect_as {line = line} s e = record { is = e line ∙ ap Code.effect_of (sym s.is) }
