-- Laws of what precedes a byte, and of the lines and the body that start at a place.
use mathlib.Core.Path.{◌≡◌, refl, ap, ◌∙◌}
use mathlib.Core.Bool.{Bool, true, false, cond, ◌||◌}
use mathlib.Core.List.{List, [], ◌∷◌}
use Prim.Native.Nat.{ℕ, suc, ◌+◌, ◌≤◌, ◌<◌}
use native.Mathlib.Numerals.{one-add}
use native.Mathlib.Omega.{arith}
use borrow.Author.Tests.{eqb-true, eqb-false, eq-eqb, ne_eqb}
use lib.Dec.{eqb}
use lib.ListN.{length, take, drop, length-drop, drop_of_length-le}
use lib.Seq.{drop-drop}
use Rattle.model.specs.declared.Marks.{Marks}
use Rattle.model.specs.Text.{Bytes, has, starts_with, up_to, onto_first, lines}
use Rattle.model.specs.Load.{body_of, body_at}
use Rattle.std.specs.List.{list_any, position_or_len}
use Rattle.std.proofs.lemmas.List.Recursion.{is_position_or_len}
use Rattle.model.proofs.Choices.{split}
use Rattle.scan.specs.Lines.{line_at}

-- ---- up to a byte

pub up_to_stops : (b x : ℕ) (s : Bytes) → x ≡ b → up_to b (x ∷ s) ≡ []
unfolding up_to
up_to_stops b x s e = rw (eq-eqb x b e, up_to)

pub up_to_goes_on : (b x : ℕ) (s : Bytes) → ¬ (x ≡ b) → up_to b (x ∷ s) ≡ x ∷ up_to b s
unfolding up_to
up_to_goes_on b x s f = rw (ne_eqb x b f, up_to)

-- by cases on the first byte
up_to_cases : (P : Bytes → Type 0) (b x : ℕ) (s : Bytes) → (x ≡ b → P []) → (¬ (x ≡ b) → P (x ∷ up_to b s)) → P (up_to b (x ∷ s))
unfolding up_to
up_to_cases P b x s f g = split P (eqb x b) _ _ (λ e. f (eqb-true x b e)) (λ e. g (eqb-false x b e))

-- it is a beginning of the list
pub up_to_front : (b : ℕ) (s : Bytes) → up_to b s ≡ take (length (up_to b s)) s
unfolding up_to
up_to_front b [] = refl
up_to_front b (x ∷ s) = up_to_cases (λ (l : Bytes). l ≡ take (length l) (x ∷ s)) b x s (λ e. refl) (λ e. ap (λ (l : Bytes). x ∷ l) (up_to_front b s))

pub up_to_short : (b : ℕ) (s : Bytes) → length (up_to b s) ≤ length s
unfolding up_to
up_to_short b [] = omega arith
up_to_short b (x ∷ s) = up_to_cases (λ (l : Bytes). length l ≤ suc (length s)) b x s (λ e. omega arith) (λ e. omega (arith, up_to_short b s))

-- as long as std's search passes over, by the test of each byte
pub up_to_long : (b : ℕ) (s : Bytes) → length (up_to b s) ≡ position_or_len (λ x. eqb x b) s
unfolding up_to
up_to_long b s = is_position_or_len (λ l. length (up_to b l)) (λ x. eqb x b) refl step s
  where
    step : (x : ℕ) (l : Bytes) → length (up_to b (x ∷ l)) ≡ cond (eqb x b) 0 (1 + length (up_to b l))
    step x l = up_to_cases (λ (p : Bytes). length p ≡ cond (eqb x b) 0 (1 + length (up_to b l))) b x l (λ e. rw (eq-eqb x b e)) (λ f. rw (ne_eqb x b f, one-add))

-- a byte occurs where std's test of each byte finds it
pub any_has : (b : ℕ) (s : Bytes) → list_any (λ x. eqb x b) s ≡ has b s
unfolding has
any_has b [] = refl
any_has b (x ∷ s) = by (eqb x b) (any_has b s)
  where
    by : (c : Bool) {y z : Bool} → y ≡ z → c || y ≡ (elim c as (λ _. Bool) [ true ↦ true | false ↦ z ])
    by true e = refl
    by false e = e

-- ---- lines

-- a text's first line is what precedes its first byte 10
pub lines_first : (s : Bytes) → 0 < length s → lines s ≡ up_to 10 s ∷ lines (drop (suc (length (up_to 10 s))) s)
unfolding lines up_to onto_first
lines_first [] h = absurd (omega arith)
lines_first (b ∷ s) h = by (eqb b 10) refl s (λ k. lines_first s k)
  where
    Starts : Bytes → Type 0
    Starts l = lines l ≡ up_to 10 l ∷ lines (drop (suc (length (up_to 10 l))) l)

    by : (c : Bool) → eqb b 10 ≡ c → (l : Bytes) → (0 < length l → Starts l) → Starts (b ∷ l)
    by true e l ih = rw (e, lines, up_to)
    by false e [] ih = rw (e, lines, up_to)
    by false e (x ∷ l) ih = rw (e, lines, up_to) (ap (onto_first b) (ih (omega arith)))

-- no line starts past the last byte
pub lines_none : (text : Bytes) (at : ℕ) → length text ≤ at → lines (drop at text) ≡ []
unfolding lines
lines_none text at h = ap lines (drop_of_length-le text h)

-- the line at a place
pub lines_at : (text : Bytes) (at : ℕ) → at < length text → lines (drop at text) ≡ line_at text at ∷ lines (drop (suc (at + length (line_at text at))) text)
lines_at text at h =
    let z : at + suc (length (line_at text at)) ≡ suc (at + length (line_at text at)) = omega arith in
    lines_first (drop at text) (omega (arith, length-drop at text))
    ∙ ap (λ (l : Bytes). line_at text at ∷ lines l) (drop-drop (suc (length (line_at text at))) at text ∙ ap (λ (n : ℕ). drop n text) z)

-- ---- bodies

-- no body goes on past the last byte
pub body_none : (m : Marks) (text : Bytes) (at : ℕ) → length text ≤ at → body_at m text at ≡ []
unfolding body_of
body_none m text at h = ap (body_of m) (lines_none text at h)

-- a line that begins with mark 3 ends a body
pub body_ends : (m : Marks) (l : Bytes) (ls : List Bytes) → starts_with m.code l ≡ true → body_of m (l ∷ ls) ≡ []
unfolding body_of
body_ends m l ls e = rw (e, body_of)

-- any other is a code line of it
pub body_goes_on : (m : Marks) (l : Bytes) (ls : List Bytes) → starts_with m.code l ≡ false → body_of m (l ∷ ls) ≡ up_to m.code l ∷ body_of m ls
unfolding body_of
body_goes_on m l ls e = rw (e, body_of)
