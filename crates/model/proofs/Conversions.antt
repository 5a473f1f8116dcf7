-- A conversion's digit names it, and nothing else does.
use mathlib.Core.Path.{◌≡◌, refl}
use mathlib.Core.Logic.{◌↔◌}
use mathlib.Core.Option.{Option, some}
use mathlib.Core.List.{List, [], ◌∷◌}
use Prim.Native.Nat.{ℕ, ◌+◌}
use native.Mathlib.Omega.{arith}
use borrow.Author.Tests.{eqb-true}
use lib.Dec.{eqb}
use Rattle.model.specs.declared.Conversion.{Conversion}
use Rattle.model.specs.declared.Conversion.TheVariants.{Itself, StoredText, Symbol, LatestDelimiter, ExpressionValue, Length, CodePoint}
use Rattle.model.specs.Code.{digit_of, conversions, first_named, conversion_of}
use Rattle.model.proofs.Choices.{split}

-- the digit of a conversion names it
pub digit-names : (c : Conversion) → conversion_of (48 + digit_of c) ≡ some c
unfolding conversion_of first_named conversions digit_of
digit-names Itself = refl
digit-names StoredText = refl
digit-names Symbol = refl
digit-names LatestDelimiter = refl
digit-names ExpressionValue = refl
digit-names Length = refl
digit-names CodePoint = refl

-- a byte that names one of these conversions is its digit
first-named : (b : ℕ) (cs : List Conversion) (c : Conversion) → first_named b cs ≡ some c → b ≡ 48 + digit_of c
unfolding first_named
first-named b [] c = λ e. let z : ◌≡◌ {A = ℕ} 0 1 = cc in absurd (omega arith)
first-named b (a ∷ cs) c =
    split (λ (x : Option Conversion). x ≡ some c → b ≡ 48 + digit_of c) (eqb b (48 + digit_of a)) _ _
    (λ q e. let d : a ≡ c = cc in rw (← d) (eqb-true b (48 + digit_of a) q))
    (λ q e. first-named b cs c e)

pub names_exactly : (b : ℕ) (c : Conversion) → conversion_of b ≡ some c ↔ b ≡ 48 + digit_of c
unfolding conversion_of
names_exactly b c = (first-named b conversions c, λ e. rw e (digit-names c))
