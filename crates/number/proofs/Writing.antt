-- A value written in decimal: the digits of its magnitude, and a minus mark before them where it is below 0.
use mathlib.Core.Path.{◌≡◌, sym, ap, ◌∙◌}
use mathlib.Core.Bool.{true, false}
use mathlib.Core.List.{List, [], ◌∷◌, ◌++◌}
use Prim.Native.Nat.{ℕ, suc, ◌+◌, ◌-◌, ◌≤◌, ◌<◌}
use native.Mathlib.Omega.{arith}
use borrow.Author.Tests.{ltb-true}
use lib.IntN.{ℤ, pos, negsuc, nat_abs}
use lib.ListN.{length, take, set}
use lib.Seq.{take-append-le}
use lib.Signed.{lt_z}
use Rattle.buffer.specs.Decimal.{Decimal}
use Rattle.model.specs.declared.Marks.{Marks}
use Rattle.model.specs.Store.{decimal}
use Rattle.model.specs.Value.{written}
use Rattle.model.proofs.Choices.{false-not-true}
use Rattle.model.proofs.Text.{part_front}
use Rattle.number.specs.Number.{WritesValue}

module _ (m : Marks) (z : ℤ) {n : ℕ} (size : n ≡ nat_abs z) where
  plain : lt_z z (pos 0) ≡ false → decimal n ≡ written m z
  unfolding written
  plain e = go z size e
    where
      go : (z : ℤ) → n ≡ nat_abs z → lt_z z (pos 0) ≡ false → decimal n ≡ written m z
      go (pos k) q e = ap decimal q
      go (negsuc k) q e = false-not-true (sym e)

  below : lt_z z (pos 0) ≡ true → m.minus ∷ decimal n ≡ written m z
  unfolding written
  below e = go z size e
    where
      go : (z : ℤ) → n ≡ nat_abs z → lt_z z (pos 0) ≡ true → m.minus ∷ decimal n ≡ written m z
      go (pos k) q e = absurd (omega (arith, ltb-true k 0 e))
      go (negsuc k) q e = ap (λ i. m.minus ∷ decimal i) q

  pub writes_plain : lt_z z (pos 0) ≡ false → {r : ℕ} {out : List ℕ} → Decimal n r out → WritesValue m z r out
  writes_plain e d = record { is = d.is ∙ plain e; few = omega (arith, d.few) }

  pub writes_minus : lt_z z (pos 0) ≡ true → (o : List ℕ) → 0 < length o → {r : ℕ} {s : List ℕ} → Decimal n r s → r ≤ length s → (t : List ℕ) → WritesValue m z (r + 1) (set (take 1 o ++ (s ++ t)) 0 m.minus)
  writes_minus e [] l d h t = absurd (omega arith)
  writes_minus e (x ∷ o) l {r} {s} d h t =
      let longer : r + 1 - 0 ≡ suc r = omega arith in
      let digits : take r s ≡ decimal n = sym (part_front s r) ∙ d.is in
      record {
        is = ap (λ k. take k (m.minus ∷ (s ++ t))) longer ∙ ap (λ q. m.minus ∷ q) (take-append-le r s t h ∙ digits) ∙ below e;
        few = omega (arith, d.few);
      }
