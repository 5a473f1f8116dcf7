-- What the expansion makes of a part that is added, where nothing is stored.
use mathlib.Core.Path.{◌≡◌, refl, sym, ap, ◌∙◌, subst}
use mathlib.Core.Option as Math
use mathlib.Core.Option.{some}
use mathlib.Core.List.{List, [], ◌∷◌}
use Prim.Native.Nat.{ℕ, ◌≤◌}
use native.Mathlib.Omega.{arith}
use lib.IntN.{ℤ}
use lib.ListN.{length}
use mir.Val.{to_z, of_z}
use Rattle.std.specs.Prelude.{Option, Some, None, Result, Ok, Err, IsErrAnd, ok_or}
use Rattle.faults.specs.declared.RunFault.{RunFault}
use Rattle.faults.specs.declared.RunFault.TheVariants.{NoValue, NoCodePoint, BadCharacter}
use Rattle.faults.specs.Numbers.{run_number}
use Rattle.model.specs.declared.Marks.{Marks}
use Rattle.model.specs.Text.{Bytes}
use Rattle.model.specs.Store.{Store, decimal}
use Rattle.model.specs.Value.{written}
use Rattle.model.specs.Machine.{Shared, Building, failed, add, add_value, add_length, add_code_point, Outputs}
use Rattle.character.specs.declared.Counted.{Counted}
use Rattle.character.specs.declared.Malformed.{Malformed}
use Rattle.character.specs.Counting.{CountsCharacters}
use Rattle.character.proofs.Counting.{counted_none, counted-some, counted-zero, counted-one}
use Rattle.number.specs.Number.{width, number_of, InRange, Valued}
use Rattle.number.proofs.Signed.{told_in}
use Rattle.value.specs.Reads.{Values}
use Rattle.state.specs.declared.State.{State}
use Rattle.state.specs.State.{shared_of}
use Rattle.call.specs.declared.Text.{Text}
use Rattle.call.specs.Call.{text_of}
use Rattle.call.specs.Line.{line_step, Appends}
use Rattle.convert.specs.Added.{Keeps, Adds, Lengthens}
use Rattle.convert.specs.Converted.{AddsValue, AddsLength, AddsCodePoint}
use Rattle.convert.proofs.Appending.{appends_as}

pub keeps_same : {s : State} → s.symbols ≤ length s.store → Keeps s s
keeps_same h = record { symbols = h; at = refl; line = refl; calls = refl; written = refl; second = refl; events = refl; fuel = refl }

-- a step that makes of s what `other` makes of t
pub adds_after : {step other : Shared → Building} {s t : State} {y : Text} {r : Result Unit RunFault}
    → ((o : Outputs) → step (shared_of s o) ≡ other (shared_of t o)) → Keeps s t → Lengthens other r y → Adds step s r y t
adds_after {t = t} e k p = record { is = λ o. e o ∙ p.is (shared_of t o); keeps = k }

-- one that stores nothing
pub adds_made : {step other : Shared → Building} {s : State} {y : Text} {r : Result Unit RunFault} → s.symbols ≤ length s.store
    → ((o : Outputs) → step (shared_of s o) ≡ other (shared_of s o)) → Lengthens other r y → Adds step s r y s
adds_made h e p = adds_after e (keeps_same h) p

pub appends_lengthens : {x y : Text} {t : Bytes} {r : Result Unit RunFault} → Appends x t r y → Lengthens (λ w. add (text_of x) t w) r y
appends_lengthens p = record { is = p.is }

pub adds_appended : {step : Shared → Building} {s : State} {x y : Text} {t : Bytes} {r : Result Unit RunFault} → s.symbols ≤ length s.store
    → ((o : Outputs) → step (shared_of s o) ≡ add (text_of x) t (shared_of s o)) → Appends x t r y → Adds step s r y s
adds_appended h e p = adds_made h e (appends_lengthens p)

-- ---- steps that store nothing

-- one that comes to a part that is added, and one that comes to a fault
lengthens_by : {step : Shared → Building} {x y : Text} {t : Bytes} {r : Result Unit RunFault} → ((w : Shared) → step w ≡ add (text_of x) t w) → Appends x t r y → Lengthens step r y
lengthens_by e p = record { is = λ w. e w ∙ p.is w }

lengthens_not : {step : Shared → Building} {x : Text} (e : RunFault) {r : Result Unit RunFault} → ((w : Shared) → step w ≡ failed (run_number e) w) → IsErrAnd r (λ f. f ≡ e)
    → Lengthens step r x
unfolding line_step
lengthens_not e {r = Ok n} p q = absurd q
lengthens_not e {r = Err f} p q = record { is = λ w. p w ∙ ap (λ (n : ℕ). failed n w) (sym (ap run_number q)) }

-- ---- ed4

-- the value of an answer, or the fault in its place
pub valued_none : {o : Option ℤ} {q : Result ℤ RunFault} {e d : RunFault} → q ≡ ok_or o d → q ≡ Err e → (o ≡ None) × (e ≡ d)
valued_none {o = Some v} p f = let z : ◌≡◌ {A = ℕ} 0 1 = cc in absurd (omega arith)
valued_none {o = None} p f = (refl, cc)

pub valued_some : {o : Option ℤ} {q : Result ℤ RunFault} {v : ℤ} (d : RunFault) → q ≡ ok_or o d → q ≡ Ok v → o ≡ Some v
valued_some {o = Some v} d p f = cc
valued_some {o = None} d p f = let z : ◌≡◌ {A = ℕ} 0 1 = cc in absurd (omega arith)

module _ {m : Marks} {t : Bytes} {x : Text} {es : Store} {v : Valued} (g : Values m es t v) where
  pub value-fault : {q : Result ℤ RunFault} {e : RunFault} {r : Result Unit RunFault} → q ≡ ok_or v NoValue → q ≡ Err e → IsErrAnd r (λ f. f ≡ e) → AddsValue m t es x r x
  unfolding add_value
  value-fault {r = r} p e f =
      let k = valued_none p e in
      record {
        adds = lengthens_not NoValue (λ w. ap (λ (o : Math.Option ℤ). add_value m (text_of x) o w) (g.is ∙ ap number_of k.0))
            (subst (λ (e : RunFault). IsErrAnd r (λ f. f ≡ e)) k.1 f);
      }

  -- a signed number is read back from its bits
  pub value_number : {q : Result ℤ RunFault} {z : ℤ} {y : Text} {r : Result Unit RunFault} → q ≡ ok_or v NoValue → q ≡ Ok z → Appends x (written m (to_z width (of_z width z))) r y → AddsValue m t es x r y
  unfolding add_value
  value_number {z = z} f e p =
      let k = valued_some NoValue f e in
      record {
        adds = lengthens_by (λ w. ap (λ (o : Math.Option ℤ). add_value m (text_of x) o w) (g.is ∙ ap number_of k))
            (appends_as (ap (written m) (told_in z (subst InRange k g.fits))) p);
      }

-- ---- ed5 and ed8

-- several characters, or none, have no code point
point_other : (l : Bytes) (vs : List ℕ) (w : Shared) → (length vs ≡ 1 → ⊥) → add_code_point l (some vs) w ≡ failed 16 w
unfolding add_code_point
point_other l [] w h = refl
point_other l (v ∷ []) w h = absurd (h refl)
point_other l (v ∷ u ∷ vs) w h = refl

module _ {t : Bytes} {x : Text} {q : Result Counted Malformed} (g : CountsCharacters t q) where
  pub length_malformed : {z : Malformed} {r : Result Unit RunFault} → q ≡ Err z → IsErrAnd r (λ f. f ≡ BadCharacter) → AddsLength t x r x
  unfolding add_length
  length_malformed e f = record { adds = lengthens_not BadCharacter (λ w. ap (λ (o : Math.Option (List ℕ)). add_length (text_of x) o w) (counted_none g e)) f }

  pub length_added : {c : Counted} {y : Text} {r : Result Unit RunFault} → q ≡ Ok c → Appends x (decimal c.count) r y → AddsLength t x r y
  unfolding add_length
  length_added e p =
      let f = counted-some g e in
      record { adds = lengthens_by (λ w. ap (λ (o : Math.Option (List ℕ)). add_length (text_of x) o w) f.are) (appends_as (ap decimal f.count) p) }

  pub point_malformed : {z : Malformed} {r : Result Unit RunFault} → q ≡ Err z → IsErrAnd r (λ f. f ≡ BadCharacter) → AddsCodePoint t x r x
  unfolding add_code_point
  point_malformed e f = record { adds = lengthens_not BadCharacter (λ w. ap (λ (o : Math.Option (List ℕ)). add_code_point (text_of x) o w) (counted_none g e)) f }

  pub point_others : {c : Counted} → q ≡ Ok c → (c.count ≡ 1 → ⊥) → AddsCodePoint t x (Err NoCodePoint) x
  point_others e z =
      let f = counted-some g e in
      record {
        adds = lengthens_not NoCodePoint
            (λ w. ap (λ (o : Math.Option (List ℕ)). add_code_point (text_of x) o w) f.are ∙ point_other (text_of x) f.codes w (λ i. z (f.count ∙ i))) refl;
      }

  -- where there is no code point, there is not one character either
  pub point_none : {c : Counted} → q ≡ Ok c → c.code ≡ None → AddsCodePoint t x (Err NoCodePoint) x
  point_none e f = point_others e (let z = counted-zero g e f in λ i. absurd (omega arith))

  pub point_added : {c : Counted} {u : ℕ} {y : Text} {r : Result Unit RunFault} → q ≡ Ok c → c.count ≡ 1 → c.code ≡ Some u → Appends x (decimal u) r y → AddsCodePoint t x r y
  unfolding add_code_point
  point_added e z k p = record { adds = lengthens_by (λ w. ap (λ (o : Math.Option (List ℕ)). add_code_point (text_of x) o w) (counted-one g e z k)) p }
