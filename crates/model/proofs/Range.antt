-- The range of values: what `checked` keeps and what it refuses, and that every value of an expression fits its width.
-- The theorems: checked_kept, checked-none, largest-bits, largest_digits, value_fits.
use mathlib.Core.Path.{◌≡◌, refl, subst}
use mathlib.Core.Logic.{◌↔◌}
use mathlib.Core.Bool.{true, false}
use mathlib.Core.Option.{Option, none, some}
use mathlib.Core.List.{[], ◌∷◌}
use Prim.Native.Nat.{ℕ, zero, suc, ◌+◌, ◌*◌, ◌^◌, ◌≤◌, ◌<◌}
use native.Mathlib.Omega.{arith}
use borrow.Author.Tests.{leb-true, le-leb, lt-leb}
use lib.Dec.{eqb, leb}
use lib.ListN.{length}
use lib.IntN.{ℤ, pos, negsuc}
use Rattle.model.specs.declared.Marks.{Marks}
use Rattle.model.specs.Limits.{largest, digits_most}
use Rattle.model.specs.Text.{Bytes, is_digit}
use Rattle.model.specs.Store.{Store, decimal, digits_of}
use Rattle.model.specs.Value.{FitsWidth, checked, divided, Read, and_then, giving, is_mark, is_stored_number, stored_number, of_stored, closing, expression, sum, product, factors, operand, whole, value_of}
use Rattle.model.proofs.Choices.{both, split, when_true, when_false}

-- a value, if there is one, fits
abbrev Fitting : Option ℤ → Type 0
Fitting none = Unit {0}
Fitting (some v) = FitsWidth v

-- ---- the test of `checked`, with k for its end

within_kept : {k : ℕ} (n : ℕ) (v : ℤ) → n ≤ k → ◌≡◌ {A = Option ℤ} (elim (leb n k) [ true ↦ some v | false ↦ none ]) (some v)
within_kept {k} n v h = when_true (some v) none (le-leb n k h)

beyond_none : {k : ℕ} (n : ℕ) (v : ℤ) → k < n → ◌≡◌ {A = Option ℤ} (elim (leb n k) [ true ↦ some v | false ↦ none ]) none
beyond_none {k} n v h = when_false (some v) none (lt-leb n k h)

kept_fits : {k : ℕ} (n : ℕ) (v : ℤ) → (n ≤ k → FitsWidth v) → Fitting (elim (leb n k) [ true ↦ some v | false ↦ none ])
kept_fits {k} n v h = split Fitting (leb n k) (some v) none (λ e. h (leb-true n k e)) (λ e. tt)

-- ---- one value

-- what is kept fits
checked_fits : (v : ℤ) → Fitting (checked v)
unfolding checked
checked_fits (pos n) = kept_fits n (pos n) (λ h. omega arith)
checked_fits (negsuc n) = kept_fits n (negsuc n) (λ h. omega arith)

-- what fits is kept
fits_kept : (v : ℤ) → FitsWidth v → checked v ≡ some v
unfolding checked
fits_kept (pos n) h = within_kept n (pos n) (omega arith)
fits_kept (negsuc n) h = within_kept n (negsuc n) (omega arith)

-- what doesn't fit is refused
unfit_none : (v : ℤ) → ¬ FitsWidth v → checked v ≡ none
unfolding checked
unfit_none (pos n) h = beyond_none n (pos n) (omega (arith, h))
unfit_none (negsuc n) h = beyond_none n (negsuc n) (omega (arith, h))

-- a value is kept exactly if it fits
pub checked_kept : (v : ℤ) → checked v ≡ some v ↔ FitsWidth v
checked_kept v = (λ e. subst Fitting e (checked_fits v), fits_kept v)

-- and refused exactly otherwise
pub checked-none : (v : ℤ) → checked v ≡ none ↔ (¬ FitsWidth v)
checked-none v = (λ e h. let k = fits_kept v h in let z : ◌≡◌ {A = ℕ} 0 1 = cc in absurd (omega arith), unfit_none v)

-- the width is 64 bits
pub largest-bits : largest + 1 ≡ 2 ^ 63
largest-bits = refl

-- the digits of the largest
pub largest_digits : length (decimal largest) ≡ digits_most
unfolding decimal digits_of
largest_digits = refl

-- a quotient that is kept
divided_fits : (a b : ℤ) → Fitting (divided a b)
unfolding divided
divided_fits a (pos zero) = tt
divided_fits a (pos (suc b)) = checked_fits _
divided_fits a (negsuc b) = checked_fits _

-- a stored number
stored_fits : (m : Marks) (o : Option Bytes) → Fitting (of_stored m o)
unfolding of_stored stored_number
stored_fits m none = tt
stored_fits m (some []) = tt
stored_fits m (some (x ∷ s)) =
    both Fitting (eqb x m.minus) _ _ (both Fitting (is_stored_number s) _ none (checked_fits _) tt) (both Fitting (is_stored_number (x ∷ s)) _ none (checked_fits _) tt)

-- ---- a value and the bytes after it

abbrev FittingRead : Read → Type 0
FittingRead none = Unit {0}
FittingRead (some r) = FitsWidth r.0

-- a value given
giving_fits : (o : Option ℤ) (s : Bytes) → Fitting o → FittingRead (giving o s)
unfolding giving
giving_fits none s h = tt
giving_fits (some v) s h = h

-- what is read next
then_fits : (r : Read) (g : ℤ → Bytes → Read) → FittingRead r → ((v : ℤ) (s : Bytes) → FitsWidth v → FittingRead (g v s)) → FittingRead (and_then r g)
unfolding and_then
then_fits none g h k = tt
then_fits (some r) g h k = k r.0 r.1 h

-- a step, and what is read next
step_fits : (o : Option ℤ) (s : Bytes) (g : ℤ → Bytes → Read) → Fitting o → ((v : ℤ) (r : Bytes) → FitsWidth v → FittingRead (g v r)) → FittingRead (and_then (giving o s) g)
step_fits o s g h k = then_fits (giving o s) g (giving_fits o s h) k

-- a bracketed expression
closing_fits : (m : Marks) (v : ℤ) (s : Bytes) → FitsWidth v → FittingRead (closing m v s)
unfolding closing
closing_fits m v [] h = tt
closing_fits m v (x ∷ s) h = both FittingRead (eqb x m.right) _ none h tt

-- a whole text
whole_fits : (r : Read) → FittingRead r → Fitting (whole r)
unfolding whole
whole_fits none h = tt
whole_fits (some r) h = by r.1
  where
    by : (t : Bytes) → Fitting (whole (some (r.0, t)))
    by [] = h
    by (x ∷ t) = tt

-- ---- expressions, at every depth

module _ (m : Marks) (st : Store) where
  record Fits (f : ℕ) : Type 0 where
    expressions : (s : Bytes) → FittingRead (expression f m st s)
    sums : (v : ℤ) (s : Bytes) → FitsWidth v → FittingRead (sum f m st v s)
    products : (s : Bytes) → FittingRead (product f m st s)
    powers : (v : ℤ) (s : Bytes) → FitsWidth v → FittingRead (factors f m st v s)
    operands : (s : Bytes) → FittingRead (operand f m st s)

  -- an expression
  expression_fits : (f : ℕ) → Fits f → (s : Bytes) → FittingRead (expression (suc f) m st s)
  unfolding expression
  expression_fits f h [] = omega arith
  expression_fits f h (x ∷ s) =
      both FittingRead (eqb x m.right) _ _ (omega arith) (
      both FittingRead (eqb x m.minus) _ _ (then_fits (product f m st s) _ (h.products s) (λ v r _. step_fits _ r (λ w t. sum f m st w t) (checked_fits _) h.sums)) (
      both FittingRead (eqb x m.plus) _ _ (then_fits (product f m st s) (λ v r. sum f m st v r) (h.products s) h.sums)
      (then_fits (product f m st (x ∷ s)) (λ v r. sum f m st v r) (h.products (x ∷ s)) h.sums)))

  -- the rest of a sum
  sum_fits : (f : ℕ) → Fits f → (v : ℤ) (s : Bytes) → FitsWidth v → FittingRead (sum (suc f) m st v s)
  unfolding sum
  sum_fits f h v [] k = k
  sum_fits f h v (x ∷ s) k =
      both FittingRead (eqb x m.plus) _ _ (then_fits (product f m st s) _ (h.products s) (λ w r _. step_fits _ r (λ u t. sum f m st u t) (checked_fits _) h.sums)) (
      both FittingRead (eqb x m.minus) _ _ (then_fits (product f m st s) _ (h.products s) (λ w r _. step_fits _ r (λ u t. sum f m st u t) (checked_fits _) h.sums)) k)

  -- a product
  product_fits : (f : ℕ) → Fits f → (s : Bytes) → FittingRead (product (suc f) m st s)
  unfolding product
  product_fits f h s = then_fits (operand f m st s) (λ v r. factors f m st v r) (h.operands s) h.powers

  -- the rest of a product
  factors_fits : (f : ℕ) → Fits f → (v : ℤ) (s : Bytes) → FitsWidth v → FittingRead (factors (suc f) m st v s)
  unfolding factors
  factors_fits f h v [] k = k
  factors_fits f h v (x ∷ s) k =
      both FittingRead (eqb x m.times) _ _ (then_fits (operand f m st s) _ (h.operands s) (λ w r _. step_fits _ r (λ u t. factors f m st u t) (checked_fits _) h.powers)) (
      both FittingRead (eqb x m.divide) _ _ (then_fits (operand f m st s) _ (h.operands s) (λ w r _. step_fits _ r (λ u t. factors f m st u t) (divided_fits v w) h.powers)) k)

  -- an operand
  operand_fits : (f : ℕ) → Fits f → (s : Bytes) → FittingRead (operand (suc f) m st s)
  unfolding operand
  operand_fits f h [] = tt
  operand_fits f h (x ∷ s) =
      both FittingRead (is_digit x) _ _ (giving_fits _ _ (checked_fits _)) (
      both FittingRead (eqb x m.left) _ _ (then_fits (expression f m st s) (λ v r. closing m v r) (h.expressions s) (closing_fits m)) (
      both FittingRead (is_mark m x) none _ tt (giving_fits _ _ (stored_fits m _))))

  -- all five, at every number
  fits : (f : ℕ) → Fits f
  unfolding expression sum product factors operand
  fits zero = record { expressions = λ s. tt; sums = λ v s _. tt; products = λ s. tt; powers = λ v s _. tt; operands = λ s. tt }
  fits (suc f) =
      let h = fits f in
      record { expressions = expression_fits f h; sums = sum_fits f h; products = product_fits f h; powers = factors_fits f h; operands = operand_fits f h }

  -- ---- the theorem

  -- the value of an expression fits
  pub value_fits : (s : Bytes) (v : ℤ) → value_of m st s ≡ some v → FitsWidth v
  unfolding value_of
  value_fits s v e = subst Fitting e (whole_fits (expression (5 * (length s + 1)) m st s) ((fits (5 * (length s + 1))).expressions s))
