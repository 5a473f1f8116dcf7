-- The first byte of an argument.
use mathlib.Core.Path.{◌≡◌, refl, ◌∙◌}
use mathlib.Core.Bool.{Bool, true, false, ◌&&◌}
use mathlib.Core.List.{[], ◌∷◌}
use Prim.Native.Nat.{ℕ}
use lib.Dec.{eqb}
use Rattle.std.proofs.Common.{rules}
use Rattle.std.specs.List.{starts_with as begins}
use Rattle.model.specs.Text.{Bytes, starts_with}

both : (q : Bool) → (q && true) ≡ q
both true = refl
both false = refl

turned : (a b : ℕ) → eqb a b ≡ eqb b a
turned a b = search rules

pub begins_first : (b : ℕ) (s : Bytes) → begins eqb s (b ∷ []) ≡ starts_with b s
unfolding starts_with
begins_first b [] = refl
begins_first b (x ∷ s) = both (eqb b x) ∙ turned b x
