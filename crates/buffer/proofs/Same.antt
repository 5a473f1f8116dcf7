-- `same` of two lists is equality, and what `==` answers at slices.
use mathlib.Core.Path.{◌≡◌, refl, ◌∙◌}
use mathlib.Core.Bool.{Bool, true, false, ◌&&◌}
use mathlib.Core.List.{List, [], ◌∷◌}
use Prim.Native.Nat.{ℕ}
use lib.Dec.{eqb}
use lib.Pointwise.{pointwise, bytes_decides}
use Rattle.model.specs.Text.{same}

choose : (p q r : Bool) → q ≡ r → (p && q) ≡ elim p as (λ _. Bool) [ true ↦ r | false ↦ false ]
choose true q r e = e
choose false q r e = refl

pub pointwise_same : (k l : List ℕ) → pointwise eqb k l ≡ same k l
unfolding same
pointwise_same [] [] = refl
pointwise_same [] (b ∷ l) = refl
pointwise_same (a ∷ k) [] = refl
pointwise_same (a ∷ k) (b ∷ l) = choose (eqb a b) (pointwise eqb k l) (same k l) (pointwise_same k l)

pub same_eq : (k l : List ℕ) → same k l ≡ true → k ≡ l
same_eq k l t = (bytes_decides k l).0 (pointwise_same k l ∙ t)
