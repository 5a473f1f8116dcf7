-- The comparisons, by the tests that the code makes.
use mathlib.Core.Path.{◌≡◌, refl, sym, ap, ◌∙◌}
use mathlib.Core.Bool.{Bool, true, false, not, ◌||◌}
use native.Mathlib.Nat.{le_refl}
use native.Mathlib.Omega.{arith}
use borrow.Author.Tests.{ltb-false, le-ltb, eqb-true, eqb-false}
use lib.Dec.{eqb}
use lib.IntN.{ℤ, pos, negsuc}
use lib.Signed.{lt_z}
use mir.Val.{SFits, of_z}
use Rattle.model.specs.Machine.{is_less, compares}
use Rattle.model.specs.declared.Comparison.TheVariants.{Equal, Unequal, Less, Greater}
use Rattle.model.proofs.Choices.{false-not-true}
use Rattle.number.specs.Number.{width}
use Rattle.number.proofs.Signed.{read_back, told, same_bits}

is-less : (a b : ℤ) → lt_z a b ≡ is_less a b
unfolding is_less
is-less (pos a) (pos b) = refl
is-less (pos a) (negsuc b) = refl
is-less (negsuc a) (pos b) = refl
is-less (negsuc a) (negsuc b) = refl

same : (a b : ℤ) → lt_z a b ≡ false → lt_z b a ≡ false → a ≡ b
same (pos a) (pos b) e f = let q : a ≡ b = omega (arith, ltb-false a b e, ltb-false b a f) in ap pos q
same (pos a) (negsuc b) e f = false-not-true (sym f)
same (negsuc a) (pos b) e f = false-not-true (sym e)
same (negsuc a) (negsuc b) e f = let q : a ≡ b = omega (arith, ltb-false b a e, ltb-false a b f) in ap negsuc q

not-below_itself : (a : ℤ) → lt_z a a ≡ false
not-below_itself (pos n) = le-ltb n n (le_refl n)
not-below_itself (negsuc n) = le-ltb n n (le_refl n)

module _ {a b : ℤ} (f : SFits width a) (g : SFits width b) where
  -- bits are the same where neither value is below the other
  by_bits : eqb (of_z width a) (of_z width b) ≡ not (lt_z a b || lt_z b a)
  by_bits = go (eqb (of_z width a) (of_z width b)) refl (lt_z a b) refl (lt_z b a) refl
    where
      go : (t : Bool) → eqb (of_z width a) (of_z width b) ≡ t → (l : Bool) → lt_z a b ≡ l → (h : Bool) → lt_z b a ≡ h → t ≡ not (l || h)
      go true e l p h q =
          let i = same_bits f g (eqb-true (of_z width a) (of_z width b) e) in
          rw (sym p ∙ ap (λ z. lt_z z b) i ∙ not-below_itself b, sym q ∙ ap (λ z. lt_z b z) i ∙ not-below_itself b)
      go false e true p h q = refl
      go false e false p true q = refl
      go false e false p false q = absurd (eqb-false (of_z width a) (of_z width b) e (ap (of_z width) (same a b p q)))

  pub equal : eqb (of_z width a) (of_z width b) ≡ compares Equal a b
  unfolding compares
  equal = rw (by_bits, is-less a b, is-less b a)

  pub unequal : not (eqb (of_z width a) (of_z width b)) ≡ compares Unequal a b
  unfolding compares
  unequal = ap not equal ∙ twice (is_less a b || is_less b a)
    where
      twice : (t : Bool) → not (not t) ≡ t
      twice true = refl
      twice false = refl

  pub less : lt_z (read_back a) (read_back b) ≡ compares Less a b
  unfolding compares
  less = rw (told f, told g) (is-less a b)

  pub greater : lt_z (read_back b) (read_back a) ≡ compares Greater a b
  unfolding compares
  greater = rw (told f, told g) (is-less b a)

-- what the goals of compare go by
pub ruleset comparing = (equal, unequal, less, greater)
