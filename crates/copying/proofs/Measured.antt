-- A content compared with a name, and measured.
use mathlib.Core.Path.{◌≡◌, refl, sym, ap, ◌∙◌}
use mathlib.Core.Bool.{Bool, true, false, ◌&&◌}
use mathlib.Core.List.{[], ◌∷◌}
use Prim.Native.Nat.{ℕ}
use mathlib.Core.Logic.{◌⊎◌, inl, inr}
use lib.Dec.{eqb, ltb}
use Rattle.std.specs.Cmp.Lexicographic.{pointwise}
use lib.ListN.{length, take}
use Rattle.model.specs.declared.Channel.{Channel}
use Rattle.model.specs.declared.Channel.TheVariants.{Nowhere, First, Second}
use Rattle.model.specs.Text.{Bytes}
use Rattle.model.specs.Load.{begins}
use Rattle.model.specs.Machine.{is_too_long}
use Rattle.copying.specs.Copies.{MeasuresLong}

-- ---- a name

-- the content's front is compared with it, byte by byte
pub begins_front : (p t : Bytes) → pointwise eqb p (take (length p) t) ≡ begins p t
unfolding begins
begins_front [] t = refl
begins_front (x ∷ p) [] = refl
begins_front (x ∷ p) (y ∷ t) = by (eqb x y) (begins_front p t)
  where
    by : (q : Bool) {a b : Bool} → a ≡ b → (q && a) ≡ elim q as (λ _. Bool) [ true ↦ b | false ↦ false ]
    by true e = e
    by false e = refl

-- ---- its length

module _ {ch : Channel} {n : ℕ} where
  pub long_nowhere : ch ≡ Nowhere → MeasuresLong ch n false
  unfolding is_too_long
  long_nowhere e = record { is = λ c l. ap (λ (x : Channel). is_too_long x c) (sym e) }

  pub long_written : (ch ≡ First) ⊎ (ch ≡ Second) → MeasuresLong ch n (ltb 200 n)
  unfolding is_too_long
  long_written (inl e) = record { is = λ c l. ap (λ (k : ℕ). ltb 200 k) (sym l) ∙ ap (λ (x : Channel). is_too_long x c) (sym e) }
  long_written (inr e) = record { is = λ c l. ap (λ (k : ℕ). ltb 200 k) (sym l) ∙ ap (λ (x : Channel). is_too_long x c) (sym e) }
