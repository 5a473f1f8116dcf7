-- The loop of `take_run`: templates that stand next to each other in the order and have one key at a place.
use mathlib.Core.Path.{◌≡◌, sym, ◌∙◌}
use mathlib.Core.Logic.{⊎_elim}
use mathlib.Core.List.{List}
use Prim.Native.Nat.{ℕ, ◌+◌, ◌≤◌, ◌<◌, min}
use native.Mathlib.Omega.{arith}
use native.Mathlib.Nat.{eq-or-lt_of_le}
use Rattle.model.specs.Text.{Bytes}
use Rattle.templates.specs.Keys.{keys}
use Rattle.templates.specs.Order.{TakesRun}
use Rattle.templates.proofs.Keys.{lt_or}

-- the places from `from` on, before `end`, have the key: they are a run before `end`
pub record Running (p : ℕ) (ts : List Bytes) (order : ℕ → ℕ) (from to d key end who : ℕ) : Type 0 where
  pub within : end ≤ to
  pub run : TakesRun (keys p ts) order from end d key who end

-- one more has it
pub run_goes_on : {p : ℕ} {ts : List Bytes} {order : ℕ → ℕ} {from to d key end who : ℕ} → Running p ts order from to d key end who
    → {k o w : ℕ} → end < to → k ≡ keys p ts (order end) d → k ≡ key → o ≡ order end → w ≡ min who o → Running p ts order from to d key (end + 1) w
run_goes_on {end = end} {who = who} h {k} {o} {w} u a b c e = let r = h.run in record {
  within = omega arith;
  run = record {
    longer = omega (arith, r.longer);
    within = omega arith;
    small = r.small;
    same = λ i x y. ⊎_elim (λ z. rw z (sym a ∙ b)) (λ z. r.same i x z) (eq-or-lt_of_le {n = i} {m = end} (omega arith));
    stops = λ v. absurd (omega arith);
    there = let (i, x, y, z) = r.there in ⊎_elim (λ v. (i, x, omega arith, omega arith)) (λ v. (end, omega (arith, r.longer), omega arith, omega arith)) (lt_or who o);
    first = λ i x y. ⊎_elim (λ z. rw z (omega arith)) (λ z. omega (arith, r.first i x z)) (eq-or-lt_of_le {n = i} {m = end} (omega arith));
  };
}
