-- The steps, by what std says of the checked ones: a value where it is in range.
use mathlib.Core.Path.{◌≡◌, refl, sym, ap}
use mathlib.Core.Bool.{Bool, true, false}
use Prim.Native.Nat.{ℕ, zero, suc, ◌≤◌, ◌<◌}
use native.Mathlib.Omega.{arith}
use borrow.Author.Tests.{ltb-true, ltb-false, eqb-true, eqb-false}
use lib.Dec.{ltb, eqb, lit<}
use lib.IntN.{ℤ, pos, negsuc, neg_ℤ, ◌-ℤ◌, +ℤ_idl}
use lib.Signed.{mag, quot_z}
use mir.Val.{SFits, of_z}
use Rattle.std.specs.Prelude.{Some, None, SomeIff, Result, Ok, Err, OkIff}
use Rattle.std.specs.Result.{result_ok}
use Rattle.model.specs.Value.{checked, quotient, divided}
use Rattle.number.specs.Number.{width, end, Gives, Valued}
use Rattle.number.proofs.Signed.{same_bits, checked_in, checked_out, gives_value}

unfit : (z : ℤ) → ¬ SFits width z → end ≤ mag z
unfit z h = go (ltb (mag z) end) refl
  where
    go : (t : Bool) → ltb (mag z) end ≡ t → end ≤ mag z
    go true e = absurd (h (record { sfits = ltb-true (mag z) end e }))
    go false e = ltb-false (mag z) end e

-- z where it is in range
pub gives_checked : (z : ℤ) (r : Valued) → SomeIff r (SFits width z) z → Gives r (checked z)
gives_checked z None h = gives_value (sym (checked_out z (unfit z h))) tt
gives_checked z (Some x) h = rw h.1 (gives_value (sym (checked_in z h.0.sfits)) h.0.sfits)

-- an amount without a minus and with one
pub gives_amount : {E : Type 0} (amount : ℕ) (r : Result ℤ E) → OkIff r (SFits width (pos amount)) (pos amount) → Gives (result_ok r) (checked (pos amount))
gives_amount amount (Ok z) h = gives_checked (pos amount) (Some z) h
gives_amount amount (Err e) h = gives_checked (pos amount) None h

pub gives_minus : (amount : ℕ) (r : Valued) → SomeIff r (SFits width (pos 0 -ℤ pos amount)) (pos 0 -ℤ pos amount) → Gives r (checked (neg_ℤ (pos amount)))
gives_minus amount r h = gives_checked (neg_ℤ (pos amount)) r (rw (+ℤ_idl (neg_ℤ (pos amount))) at h)

-- ---- the quotient of two values
same-quotient : (a b : ℤ) → quotient a b ≡ quot_z a b
unfolding quotient
same-quotient (pos a) (pos b) = refl
same-quotient (pos a) (negsuc b) = refl
same-quotient (negsuc a) (pos b) = refl
same-quotient (negsuc a) (negsuc b) = refl

module _ (a : ℤ) {b : ℤ} (g : SFits width b) where
  zero_fits : SFits width (pos 0)
  zero_fits = record { sfits = lit< tt }

  divided-by : (of_z width b ≡ 0 → ⊥) → divided a b ≡ checked (quot_z a b)
  unfolding divided
  divided-by n = go b n
    where
      go : (b : ℤ) → (of_z width b ≡ 0 → ⊥) → divided a b ≡ checked (quot_z a b)
      go (pos zero) n = absurd (n refl)
      go (pos (suc k)) n = ap checked (same-quotient a (pos (suc k)))
      go (negsuc k) n = ap checked (same-quotient a (negsuc k))

  quotient-none : of_z width b ≡ 0 → Gives None (divided a b)
  unfolding divided
  quotient-none e = rw (same_bits g zero_fits e) (gives_value refl tt)

  quotient_told : (r : Valued) → (of_z width b ≡ 0 → ⊥) → SomeIff r (SFits width (quot_z a b)) (quot_z a b) → Gives r (divided a b)
  quotient_told r n h = rw (divided-by n) (gives_checked (quot_z a b) r h)

  pub gives_quotient : (r : Valued) → SomeIff r ((0 < of_z width b) × SFits width (quot_z a b)) (quot_z a b) → Gives r (divided a b)
  gives_quotient None h = go (eqb (of_z width b) 0) refl
    where
      go : (t : Bool) → eqb (of_z width b) 0 ≡ t → Gives None (divided a b)
      go true e = quotient-none (eqb-true (of_z width b) 0 e)
      go false e = let n = eqb-false (of_z width b) 0 e in quotient_told None n (λ f. h (omega arith, f))
  gives_quotient (Some x) h = quotient_told (Some x) (λ e. omega (arith, h.0.0)) (h.0.1, h.1)
