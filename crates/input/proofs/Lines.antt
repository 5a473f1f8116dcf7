-- Input lines dropped.
use mathlib.Core.Path.{◌≡◌, sym, ap, ◌∙◌, subst}
use mathlib.Core.List.{List, [], ◌∷◌}
use Prim.Native.Nat.{ℕ, suc, ◌+◌, ◌-◌, ◌≤◌, ◌<◌, min}
use native.Mathlib.Omega.{arith}
use lib.ListN.{length, drop, drop_of_length-le}
use lib.Seq.{drop-nil}
use Rattle.model.specs.Text.{Bytes, part, lines}
use Rattle.scan.specs.Lines.{LineAt}
use Rattle.state.specs.declared.State.{State}
use Rattle.state.specs.State.{with_input}
use Rattle.input.specs.Expands.{DropsLines}

-- s' is s with k of the n lines that are to be dropped read, or with the input at its end
pub record Dropping (text : Bytes) (n : ℕ) (s s' : State) (k : ℕ) : Type 0 where
  pub is : s' ≡ with_input s s'.at s'.line
  pub input : drop (n - k) (lines (drop s'.at text)) ≡ drop n (lines (drop s.at text))
  pub lined : s'.line + min (n - k) (length (lines (drop s'.at text))) ≡ s.line + min n (length (lines (drop s.at text)))
  pub from : s.at ≤ s'.at
  pub within : s'.at ≤ length text
  pub few : s'.line + s.at ≤ s.line + s'.at

module _ {text : Bytes} {n : ℕ} {s s' : State} {k : ℕ} (d : Dropping text n s s' k) where
  -- nothing more is to be dropped, or no line is left
  dropped_at : drop (n - k) (lines (drop s'.at text)) ≡ lines (drop s'.at text) → min (n - k) (length (lines (drop s'.at text))) ≡ 0 → DropsLines text n s s'
  dropped_at e z = record { is = d.is; input = sym e ∙ d.input; line = omega (arith, d.lined, z); from = d.from; within = d.within; few = d.few }

  pub input_ends : s'.at ≡ length text → DropsLines text n s s'
  unfolding lines
  input_ends h =
      let none_left : lines (drop s'.at text) ≡ [] = ap lines (drop_of_length-le text (omega arith)) in
      let z : length (lines (drop s'.at text)) ≡ 0 = ap length none_left in
      dropped_at (ap (drop (n - k)) none_left ∙ drop-nil (n - k) ∙ sym none_left) (omega arith)

  -- a line more is read
  pub dropping_more : {end next : ℕ} {t : State} → k < n → LineAt text s'.at end next → t ≡ with_input s' next (s'.line + 1) → Dropping text n s t (k + 1)
  dropping_more {end} {next} {t} some l et =
      let e : lines (drop s'.at text) ≡ part text s'.at end ∷ lines (drop next text) = l.is in
      let j : n - k ≡ suc (n - (k + 1)) = omega arith in
      let long : length (lines (drop s'.at text)) ≡ suc (length (lines (drop next text))) = ap length e in
      let ahead = l.ahead in
      subst (λ (u : State). Dropping text n s u (k + 1)) (sym et) record {
        is = ap (λ (u : State). with_input u next (s'.line + 1)) d.is;
        input = sym (ap (λ (ls : List Bytes). drop (suc (n - (k + 1))) ls) e) ∙ sym (ap (λ (i : ℕ). drop i (lines (drop s'.at text))) j) ∙ d.input;
        lined = omega (arith, d.lined);
        from = omega (arith, d.from);
        within = l.within;
        few = omega (arith, d.few);
      }
