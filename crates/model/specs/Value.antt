-- Values of expressions (document 01, "Values"), at the width of document 02's ticket 2.
use Rattle.std.specs.Prelude.{Bool, true, false, ◌&&◌, List, [], ◌∷◌, ℕ, zero, suc, ◌+◌, ◌-◌, ◌*◌, ◌/◌, ◌≤◌, eqb, leb, length, ℤ, pos, negsuc, neg_ℤ, ◌+ℤ◌, ◌-ℤ◌, ◌*ℤ◌}
use Rattle.std.proofs.Math.Option.{Option, none, some}
use Rattle.model.specs.declared.Marks.{Marks}
use Rattle.model.specs.Limits.{largest, digits_most}
use Rattle.model.specs.Text.{is_digit, has}
use Rattle.model.specs.Store.{Store, find, decimal}

-- document 01's number for a value: 15 where there is none
abbrev pub value_fault : Option ℤ → ℕ
value_fault none = 15
value_fault (some v) = 0

-- v is from -(largest + 1) to largest
abbrev pub FitsWidth : ℤ → Type 0
FitsWidth (pos n) = n ≤ largest
FitsWidth (negsuc n) = suc n ≤ largest + 1

-- a value that fits, or none
unfoldable pub checked : ℤ → Option ℤ
checked (pos n) = elim (leb n largest) [ true ↦ some (pos n) | false ↦ none ]
checked (negsuc n) = elim (leb n largest) [ true ↦ some (negsuc n) | false ↦ none ]

-- the fraction is dropped toward zero
unfoldable pub quotient : ℤ → ℤ → ℤ
quotient (pos a) (pos b) = pos (a / b)
quotient (pos a) (negsuc b) = neg_ℤ (pos (a / suc b))
quotient (negsuc a) (pos b) = neg_ℤ (pos (suc a / b))
quotient (negsuc a) (negsuc b) = pos (suc a / suc b)

unfoldable pub divided : ℤ → ℤ → Option ℤ
divided a (pos zero) = none
divided a (pos (suc b)) = checked (quotient a (pos (suc b)))
divided a (negsuc b) = checked (quotient a (negsuc b))

-- a value and the bytes after it
abbrev pub Read : Type 0
Read = Option (ℤ × List ℕ)

-- and its number
abbrev pub read_fault : Read → ℕ
read_fault none = value_fault none
read_fault (some r) = value_fault (some r.0)

unfoldable pub and_then : Read → (ℤ → List ℕ → Read) → Read
and_then none f = none
and_then (some r) f = f r.0 r.1

unfoldable pub giving : Option ℤ → List ℕ → Read
giving none s = none
giving (some v) s = some (v, s)

unfoldable pub number : ℕ → List ℕ → ℕ × List ℕ
number n [] = (n, [])
number n (x ∷ s) = elim (is_digit x) [ true ↦ number (n * 10 + (x - 48)) s | false ↦ (n, x ∷ s) ]

unfoldable pub is_mark : Marks → ℕ → Bool
is_mark m b = has b (m.blank ∷ m.left ∷ m.plus ∷ m.minus ∷ m.times ∷ m.divide ∷ m.right ∷ [])

unfoldable pub name_of : Marks → List ℕ → List ℕ × List ℕ
name_of m [] = ([], [])
name_of m (x ∷ s) = elim (is_mark m x) [ true ↦ ([], x ∷ s) | false ↦ (x ∷ (name_of m s).0, (name_of m s).1) ]

unfoldable pub only_digits : List ℕ → Bool
only_digits [] = true
only_digits (x ∷ s) = is_digit x && only_digits s

-- 1 to 19 digits
unfoldable pub is_stored_number : List ℕ → Bool
is_stored_number s = leb 1 (length s) && (leb (length s) digits_most && only_digits s)

unfoldable pub stored_number : Marks → List ℕ → Option ℤ
stored_number m [] = none
stored_number m (x ∷ s) =
    elim (eqb x m.minus) [
      | true ↦ elim (is_stored_number s) [ true ↦ checked (neg_ℤ (pos (number 0 s).0)) | false ↦ none ]
      | false ↦ elim (is_stored_number (x ∷ s)) [ true ↦ checked (pos (number 0 (x ∷ s)).0) | false ↦ none ]
    ]

unfoldable pub of_stored : Marks → Option (List ℕ) → Option ℤ
of_stored m none = none
of_stored m (some t) = stored_number m t

unfoldable pub closing : Marks → ℤ → List ℕ → Read
closing m v [] = none
closing m v (x ∷ s) = elim (eqb x m.right) [ true ↦ some (v, s) | false ↦ none ]

-- An expression, a product and an operand are each defined through the next; the number bounds how deep.
unfoldable mutual
  pub expression : ℕ → Marks → Store → List ℕ → Read
  expression zero m st s = none
  expression (suc f) m st [] = some (pos 0, [])
  expression (suc f) m st (x ∷ s) =
      elim (eqb x m.right) [
        | true ↦ some (pos 0, x ∷ s)
        | false ↦
            elim (eqb x m.minus) [
              | true ↦ and_then (product f m st s) (λ v r. and_then (giving (checked (neg_ℤ v)) r) (λ w t. sum f m st w t))
              | false ↦
                  elim (eqb x m.plus) [
                    | true ↦ and_then (product f m st s) (λ v r. sum f m st v r)
                    | false ↦
                        and_then (product f m st (x ∷ s)) (λ v r. sum f m st v r)
                  ]
            ]
      ]

  pub sum : ℕ → Marks → Store → ℤ → List ℕ → Read
  sum zero m st v s = none
  sum (suc f) m st v [] = some (v, [])
  sum (suc f) m st v (x ∷ s) =
      elim (eqb x m.plus) [
        | true ↦ and_then (product f m st s) (λ w r. and_then (giving (checked (v +ℤ w)) r) (λ u t. sum f m st u t))
        | false ↦
            elim (eqb x m.minus) [ true ↦ and_then (product f m st s) (λ w r. and_then (giving (checked (v -ℤ w)) r) (λ u t. sum f m st u t)) | false ↦ some (v, x ∷ s) ]
      ]

  pub product : ℕ → Marks → Store → List ℕ → Read
  product zero m st s = none
  product (suc f) m st s = and_then (operand f m st s) (λ v r. factors f m st v r)

  pub factors : ℕ → Marks → Store → ℤ → List ℕ → Read
  factors zero m st v s = none
  factors (suc f) m st v [] = some (v, [])
  factors (suc f) m st v (x ∷ s) =
      elim (eqb x m.times) [
        | true ↦ and_then (operand f m st s) (λ w r. and_then (giving (checked (v *ℤ w)) r) (λ u t. factors f m st u t))
        | false ↦
            elim (eqb x m.divide) [ true ↦ and_then (operand f m st s) (λ w r. and_then (giving (divided v w) r) (λ u t. factors f m st u t)) | false ↦ some (v, x ∷ s) ]
      ]

  pub operand : ℕ → Marks → Store → List ℕ → Read
  operand zero m st s = none
  operand (suc f) m st [] = none
  operand (suc f) m st (x ∷ s) =
      elim (is_digit x) [
        | true ↦ giving (checked (pos (number 0 (x ∷ s)).0)) (number 0 (x ∷ s)).1
        | false ↦
            elim (eqb x m.left) [
              | true ↦ and_then (expression f m st s) (λ v r. closing m v r)
              | false ↦
                  elim (is_mark m x) [ true ↦ none | false ↦ giving (of_stored m (find (name_of m (x ∷ s)).0 st)) (name_of m (x ∷ s)).1 ]
            ]
      ]

unfoldable pub whole : Read → Option ℤ
whole none = none
whole (some r) = elim r.1 [ [] ↦ some r.0 | x ∷ s ↦ none ]

-- the value of a text as an expression, or none: fault 15
unfoldable pub value_of : Marks → Store → List ℕ → Option ℤ
value_of m st s = whole (expression (5 * (length s + 1)) m st s)

unfoldable pub written : Marks → ℤ → List ℕ
written m (pos n) = decimal n
written m (negsuc n) = m.minus ∷ decimal (suc n)
