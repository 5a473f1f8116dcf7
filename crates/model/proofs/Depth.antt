-- The numbers that bound how deep an expression is read, and a pass's piece, don't matter: any that is large enough gives the same,
-- and those of `value_of` and `pass_of` are. The theorems: expression_from, value_enough, piece_enough.
use mathlib.Core.Path.{◌≡◌, refl, ap, sym, ◌∙◌}
use mathlib.Core.Bool.{Bool, true, false}
use mathlib.Core.Option.{Option, none, some}
use mathlib.Core.List.{List, [], ◌∷◌}
use Prim.Native.Nat.{ℕ, zero, suc, ◌+◌, ◌-◌, ◌*◌, ◌≤◌, ◌<◌}
use native.Mathlib.Omega.{arith}
use lib.Dec.{eqb}
use lib.ListN.{length}
use lib.IntN.{ℤ}
use Rattle.model.specs.declared.Marks.{Marks}
use Rattle.model.specs.Text.{is_digit, has}
use Rattle.model.specs.Store.{Store}
use Rattle.model.specs.Value.{Read, and_then, giving, number, is_mark, name_of, closing, expression, sum, product, factors, operand, whole, value_of}
use Rattle.model.specs.Reading.{atom}
use Rattle.model.specs.Machine.{Piece, longer, piece_of}
use Rattle.model.proofs.Choices.{both, split}
use Rattle.model.proofs.Sizes.{AtomSmall, atom-small}

-- ---- tools

-- at most n bytes are left after a value
abbrev Leaves : ℕ → Read → Type 0
Leaves n none = Unit {0}
Leaves n (some r) = length r.1 ≤ n

-- two tests with equal branches
if_same : {A : Type 0} (b : Bool) (x y x' y' : A) → x ≡ x' → y ≡ y' → ◌≡◌ {A = A} (elim b [ true ↦ x | false ↦ y ]) (elim b [ true ↦ x' | false ↦ y' ])
if_same true x y x' y' p q = p
if_same false x y x' y' p q = q

-- what is read next leaves no more
then_leaves : (k n : ℕ) (r : Read) (f : ℤ → List ℕ → Read) → Leaves k r → ((v : ℤ) (s : List ℕ) → length s ≤ k → Leaves n (f v s)) → Leaves n (and_then r f)
unfolding and_then
then_leaves k n none f h g = tt
then_leaves k n (some r) f h g = g r.0 r.1 h

-- a value given leaves the rest
giving_leaves : (n : ℕ) (o : Option ℤ) (s : List ℕ) → length s ≤ n → Leaves n (giving o s)
unfolding giving
giving_leaves n none s h = tt
giving_leaves n (some v) s h = h

-- the same is read next
then_same : (k : ℕ) (r r' : Read) (f g : ℤ → List ℕ → Read) → Leaves k r → r ≡ r' → ((v : ℤ) (s : List ℕ) → length s ≤ k → f v s ≡ g v s) → and_then r f ≡ and_then r' g
unfolding and_then
then_same k none r' f g h e q = ap (λ (x : Read). and_then x g) e
then_same k (some r) r' f g h e q = q r.0 r.1 h ∙ ap (λ (x : Read). and_then x g) e

-- digits are taken from the front
pub number_leaves : (n : ℕ) (s : List ℕ) → length (number n s).1 ≤ length s
unfolding number
number_leaves n [] = omega arith
number_leaves n (x ∷ s) = both (λ (p : ℕ × List ℕ). length p.1 ≤ suc (length s)) (is_digit x) (number (n * 10 + (x - 48)) s) (n, x ∷ s) (omega (arith, number_leaves (n * 10 + (x - 48)) s)) (omega arith)

-- at least one, where the first byte is a digit
number_takes : (n x : ℕ) (s : List ℕ) → is_digit x ≡ true → length (number n (x ∷ s)).1 ≤ length s
unfolding number
number_takes n x s e = rw (e, number) (number_leaves (n * 10 + (x - 48)) s)

-- a name is taken from the front
name_leaves : (m : Marks) (s : List ℕ) → length (name_of m s).1 ≤ length s
unfolding name_of
name_leaves m [] = omega arith
name_leaves m (x ∷ s) = both (λ (p : List ℕ × List ℕ). length p.1 ≤ suc (length s)) (is_mark m x) ([], x ∷ s) (x ∷ (name_of m s).0, (name_of m s).1) (omega arith) (omega (arith, name_leaves m s))

-- at least one byte, where the first is no mark
name_takes : (m : Marks) (x : ℕ) (s : List ℕ) → is_mark m x ≡ false → length (name_of m (x ∷ s)).1 ≤ length s
unfolding name_of
name_takes m x s e = rw (e, name_of) (name_leaves m s)

-- a right bracket is taken from the front
closing_leaves : (m : Marks) (v : ℤ) (s : List ℕ) (n : ℕ) → length s ≤ n → Leaves n (closing m v s)
unfolding closing
closing_leaves m v [] n h = tt
closing_leaves m v (x ∷ s) n h = both (Leaves n) (eqb x m.right) _ _ (omega arith) tt

-- ---- what is left

module _ (m : Marks) (st : Store) where
  -- each leaves at most what there was; a product and an operand take a byte at least
  record Rests (f : ℕ) : Type 0 where
    expressions : (s : List ℕ) → Leaves (length s) (expression f m st s)
    sums : (v : ℤ) (s : List ℕ) → Leaves (length s) (sum f m st v s)
    products : (s : List ℕ) → Leaves (length s - 1) (product f m st s)
    powers : (v : ℤ) (s : List ℕ) → Leaves (length s) (factors f m st v s)
    operands : (s : List ℕ) → Leaves (length s - 1) (operand f m st s)

  -- who leaves at most k leaves at most more
  more_leaves : (k n : ℕ) (r : Read) → k ≤ n → Leaves k r → Leaves n r
  more_leaves k n none h e = tt
  more_leaves k n (some r) h e = omega arith

  -- a step: a value from two others, and what is read after it
  step_leaves : (k n : ℕ) (o : Option ℤ) (s : List ℕ) (g : ℤ → List ℕ → Read) → ((w : ℤ) (t : List ℕ) → Leaves (length t) (g w t)) → length s ≤ k → k ≤ n → Leaves n (and_then (giving o s) g)
  step_leaves k n o s g h l e = then_leaves k n (giving o s) g (giving_leaves k o s l) (λ w t j. more_leaves (length t) n (g w t) (omega arith) (h w t))

  -- an expression
  expression_rests : (f : ℕ) → Rests f → (s : List ℕ) → Leaves (length s) (expression (suc f) m st s)
  unfolding expression
  expression_rests f h [] = omega arith
  expression_rests f h (x ∷ s) =
      both (Leaves (suc (length s))) (eqb x m.right) _ _ (omega arith) (
      both (Leaves (suc (length s))) (eqb x m.minus) _ _
      (then_leaves (length s - 1) (suc (length s)) (product f m st s) _ (h.products s) (λ v r k. step_leaves (length s) (suc (length s)) _ r (λ w t. sum f m st w t) h.sums (omega arith) (omega arith))) (
      both (Leaves (suc (length s))) (eqb x m.plus) _ _
      (then_leaves (length s - 1) (suc (length s)) (product f m st s) _ (h.products s) (λ v r k. more_leaves (length r) (suc (length s)) (sum f m st v r) (omega arith) (h.sums v r)))
      (then_leaves (suc (length s) - 1) (suc (length s)) (product f m st (x ∷ s)) _ (h.products (x ∷ s)) (λ v r k. more_leaves (length r) (suc (length s)) (sum f m st v r) (omega arith) (h.sums v r)))))

  -- the rest of a sum
  sum_rests : (f : ℕ) → Rests f → (v : ℤ) (s : List ℕ) → Leaves (length s) (sum (suc f) m st v s)
  unfolding sum
  sum_rests f h v [] = omega arith
  sum_rests f h v (x ∷ s) =
      both (Leaves (suc (length s))) (eqb x m.plus) _ _
      (then_leaves (length s - 1) (suc (length s)) (product f m st s) _ (h.products s) (λ w r k. step_leaves (length s) (suc (length s)) _ r (λ u t. sum f m st u t) h.sums (omega arith) (omega arith))) (
      both (Leaves (suc (length s))) (eqb x m.minus) _ _
      (then_leaves (length s - 1) (suc (length s)) (product f m st s) _ (h.products s) (λ w r k. step_leaves (length s) (suc (length s)) _ r (λ u t. sum f m st u t) h.sums (omega arith) (omega arith)))
      (omega arith))

  -- a product
  product_rests : (f : ℕ) → Rests f → (s : List ℕ) → Leaves (length s - 1) (product (suc f) m st s)
  unfolding product
  product_rests f h s = then_leaves (length s - 1) (length s - 1) (operand f m st s) _ (h.operands s) (λ v r k. more_leaves (length r) (length s - 1) (factors f m st v r) k (h.powers v r))

  -- the rest of a product
  factors_rests : (f : ℕ) → Rests f → (v : ℤ) (s : List ℕ) → Leaves (length s) (factors (suc f) m st v s)
  unfolding factors
  factors_rests f h v [] = omega arith
  factors_rests f h v (x ∷ s) =
      both (Leaves (suc (length s))) (eqb x m.times) _ _
      (then_leaves (length s - 1) (suc (length s)) (operand f m st s) _ (h.operands s) (λ w r k. step_leaves (length s) (suc (length s)) _ r (λ u t. factors f m st u t) h.powers (omega arith) (omega arith))) (
      both (Leaves (suc (length s))) (eqb x m.divide) _ _
      (then_leaves (length s - 1) (suc (length s)) (operand f m st s) _ (h.operands s) (λ w r k. step_leaves (length s) (suc (length s)) _ r (λ u t. factors f m st u t) h.powers (omega arith) (omega arith)))
      (omega arith))

  -- an operand
  operand_rests : (f : ℕ) → Rests f → (s : List ℕ) → Leaves (length s - 1) (operand (suc f) m st s)
  unfolding operand
  operand_rests f h [] = tt
  operand_rests f h (x ∷ s) =
      let n : ℕ = suc (length s) - 1 in
      split (Leaves n) (is_digit x) _ _
      (λ e. giving_leaves n _ _ (omega (arith, number_takes 0 x s e)))
      (λ e. both (Leaves n) (eqb x m.left) _ _
      (then_leaves (length s) n (expression f m st s) _ (h.expressions s) (λ v r k. closing_leaves m v r n (omega arith)))
      (split (Leaves n) (is_mark m x) _ _ (λ k. tt) (λ k. giving_leaves n _ _ (omega (arith, name_takes m x s k)))))

  -- all five, at every number
  rests : (f : ℕ) → Rests f
  unfolding expression sum product factors operand
  rests zero = record { expressions = λ s. tt; sums = λ v s. tt; products = λ s. tt; powers = λ v s. tt; operands = λ s. tt }
  rests (suc f) =
      let h = rests f in
      record { expressions = expression_rests f h; sums = sum_rests f h; products = product_rests f h; powers = factors_rests f h; operands = operand_rests f h }

  -- ---- one more changes nothing

  -- where f is enough for what is read, one more reads the same
  record Enough (f : ℕ) : Type 0 where
    expressions : (s : List ℕ) → 3 * length s + 3 ≤ f → expression f m st s ≡ expression (suc f) m st s
    sums : (v : ℤ) (s : List ℕ) → 3 * length s + 3 ≤ f → sum f m st v s ≡ sum (suc f) m st v s
    products : (s : List ℕ) → 3 * length s + 2 ≤ f → product f m st s ≡ product (suc f) m st s
    powers : (v : ℤ) (s : List ℕ) → 3 * length s + 3 ≤ f → factors f m st v s ≡ factors (suc f) m st v s
    operands : (s : List ℕ) → 3 * length s + 1 ≤ f → operand f m st s ≡ operand (suc f) m st s

  -- the same step, and the same after it
  step_same : (n k : ℕ) (o : Option ℤ) (s : List ℕ) (g g' : ℤ → List ℕ → Read) → ((w : ℤ) (t : List ℕ) → 3 * length t + 3 ≤ n → g w t ≡ g' w t) → length s ≤ k → 3 * k + 3 ≤ n
      → and_then (giving o s) g ≡ and_then (giving o s) g'
  step_same n k o s g g' h l e = then_same k (giving o s) (giving o s) g g' (giving_leaves k o s l) refl (λ w t j. h w t (omega arith))

  -- an expression
  expression_enough : (f : ℕ) → Enough f → (s : List ℕ) → 3 * length s + 3 ≤ suc f → expression (suc f) m st s ≡ expression (suc (suc f)) m st s
  unfolding expression
  expression_enough f h [] l = refl
  expression_enough f h (x ∷ s) l =
      if_same (eqb x m.right) _ _ _ _ refl (
      if_same (eqb x m.minus) _ _ _ _
      (then_same (length s - 1) (product f m st s) (product (suc f) m st s) _ _ ((rests f).products s) (h.products s (omega arith))
      (λ v r k. step_same f (length s) _ r (λ w t. sum f m st w t) (λ w t. sum (suc f) m st w t) h.sums (omega arith) (omega arith))) (
      if_same (eqb x m.plus) _ _ _ _
      (then_same (length s - 1) (product f m st s) (product (suc f) m st s) _ _ ((rests f).products s) (h.products s (omega arith)) (λ v r k. h.sums v r (omega arith)))
      (then_same (suc (length s) - 1) (product f m st (x ∷ s)) (product (suc f) m st (x ∷ s)) _ _ ((rests f).products (x ∷ s)) (h.products (x ∷ s) (omega arith)) (λ v r k. h.sums v r (omega arith)))))

  -- the rest of a sum
  sum_enough : (f : ℕ) → Enough f → (v : ℤ) (s : List ℕ) → 3 * length s + 3 ≤ suc f → sum (suc f) m st v s ≡ sum (suc (suc f)) m st v s
  unfolding sum
  sum_enough f h v [] l = refl
  sum_enough f h v (x ∷ s) l =
      if_same (eqb x m.plus) _ _ _ _
      (then_same (length s - 1) (product f m st s) (product (suc f) m st s) _ _ ((rests f).products s) (h.products s (omega arith))
      (λ w r k. step_same f (length s) _ r (λ u t. sum f m st u t) (λ u t. sum (suc f) m st u t) h.sums (omega arith) (omega arith))) (
      if_same (eqb x m.minus) _ _ _ _
      (then_same (length s - 1) (product f m st s) (product (suc f) m st s) _ _ ((rests f).products s) (h.products s (omega arith))
      (λ w r k. step_same f (length s) _ r (λ u t. sum f m st u t) (λ u t. sum (suc f) m st u t) h.sums (omega arith) (omega arith)))
      refl)

  -- the empty text has no operand
  operand_empty : (f : ℕ) → operand f m st [] ≡ none
  unfolding operand
  operand_empty zero = refl
  operand_empty (suc f) = refl

  -- a product
  product_enough : (f : ℕ) → Enough f → (s : List ℕ) → 3 * length s + 2 ≤ suc f → product (suc f) m st s ≡ product (suc (suc f)) m st s
  unfolding product and_then
  product_enough f h [] l =
      ap (λ (r : Read). and_then r (λ v t. factors f m st v t)) (operand_empty f) ∙ sym (ap (λ (r : Read). and_then r (λ v t. factors (suc f) m st v t)) (operand_empty (suc f)))
  product_enough f h (x ∷ s) l =
      then_same (suc (length s) - 1) (operand f m st (x ∷ s)) (operand (suc f) m st (x ∷ s)) _ _ ((rests f).operands (x ∷ s)) (h.operands (x ∷ s) (omega arith)) (λ v r k. h.powers v r (omega arith))

  -- the rest of a product
  factors_enough : (f : ℕ) → Enough f → (v : ℤ) (s : List ℕ) → 3 * length s + 3 ≤ suc f → factors (suc f) m st v s ≡ factors (suc (suc f)) m st v s
  unfolding factors
  factors_enough f h v [] l = refl
  factors_enough f h v (x ∷ s) l =
      if_same (eqb x m.times) _ _ _ _
      (then_same (length s - 1) (operand f m st s) (operand (suc f) m st s) _ _ ((rests f).operands s) (h.operands s (omega arith))
      (λ w r k. step_same f (length s) _ r (λ u t. factors f m st u t) (λ u t. factors (suc f) m st u t) h.powers (omega arith) (omega arith))) (
      if_same (eqb x m.divide) _ _ _ _
      (then_same (length s - 1) (operand f m st s) (operand (suc f) m st s) _ _ ((rests f).operands s) (h.operands s (omega arith))
      (λ w r k. step_same f (length s) _ r (λ u t. factors f m st u t) (λ u t. factors (suc f) m st u t) h.powers (omega arith) (omega arith)))
      refl)

  -- an operand
  operand_enough : (f : ℕ) → Enough f → (s : List ℕ) → 3 * length s + 1 ≤ suc f → operand (suc f) m st s ≡ operand (suc (suc f)) m st s
  unfolding operand
  operand_enough f h [] l = refl
  operand_enough f h (x ∷ s) l =
      if_same (is_digit x) _ _ _ _ refl (
      if_same (eqb x m.left) _ _ _ _
      (then_same (length s) (expression f m st s) (expression (suc f) m st s) _ _ ((rests f).expressions s) (h.expressions s (omega arith)) (λ v r k. refl))
      refl)

  -- all five, at every number
  enough : (f : ℕ) → Enough f
  enough zero = record {
    expressions = λ s l. absurd (omega arith);
    sums = λ v s l. absurd (omega arith);
    products = λ s l. absurd (omega arith);
    powers = λ v s l. absurd (omega arith);
    operands = λ s l. absurd (omega arith);
  }
  enough (suc f) =
      let h = enough f in
      record { expressions = expression_enough f h; sums = sum_enough f h; products = product_enough f h; powers = factors_enough f h; operands = operand_enough f h }

  -- ---- the theorem

  -- any number of at least three for each byte, and three more, reads the same
  pub expression_from : (s : List ℕ) (f d : ℕ) → 3 * length s + 3 ≤ f → expression f m st s ≡ expression (f + d) m st s
  expression_from s f zero l = let z : f + 0 ≡ f = omega arith in rw z refl
  expression_from s f (suc d) l =
      let z : f + suc d ≡ suc (f + d) = omega arith in
      rw z (expression_from s f d l ∙ (enough (f + d)).expressions s (omega arith))

  -- and so gives the value
  pub value_enough : (s : List ℕ) (n : ℕ) → 3 * length s + 3 ≤ n → whole (expression n m st s) ≡ value_of m st s
  unfolding value_of
  value_enough s n l =
      let b : ℕ = 3 * length s + 3 in
      let p : b + (n - b) ≡ n = omega arith in
      let q : b + (5 * (length s + 1) - b) ≡ 5 * (length s + 1) = omega arith in
      ap whole (ap (λ (k : ℕ). expression k m st s) (sym p) ∙ (sym (expression_from s b (n - b) (omega arith)) ∙ (expression_from s b (5 * (length s + 1) - b) (omega arith) ∙ ap (λ (k : ℕ). expression k m st s) q)))

-- ---- a pass

-- the piece of a pass: a number above the line's length is enough
piece_one-more : (m : Marks) (ds : List ℕ) (f : ℕ) (s : List ℕ) → length s < f → piece_of f m ds s ≡ piece_of (suc f) m ds s
unfolding piece_of
piece_one-more m ds zero s l = absurd (omega arith)
piece_one-more m ds (suc f) [] l = refl
piece_one-more m ds (suc f) (x ∷ s) l =
    if_same (has x ds) _ _ _ _ refl (by (atom m (x ∷ s)) (atom-small m (x ∷ s)) (λ r k. piece_one-more m ds f r k))
  where
    by : (o : Option (List ℕ × List ℕ)) → AtomSmall (suc (length s)) o → ((r : List ℕ) → length r < f → piece_of f m ds r ≡ piece_of (suc f) m ds r)
        → ◌≡◌ {A = Option Piece} (elim o [ none ↦ none | some a ↦ longer a.0 (piece_of f m ds a.1) ]) (elim o [ none ↦ none | some a ↦ longer a.0 (piece_of (suc f) m ds a.1) ])
    by none h ih = refl
    by (some a) h ih = ap (longer a.0) (ih a.1 (omega (arith, h.1)))

-- any such number gives the same piece
pub piece_enough : (m : Marks) (ds s : List ℕ) (d : ℕ) → piece_of (length s + 1 + d) m ds s ≡ piece_of (length s + 1) m ds s
piece_enough m ds s zero = let z : length s + 1 + 0 ≡ length s + 1 = omega arith in rw z refl
piece_enough m ds s (suc d) =
    let z : length s + 1 + suc d ≡ suc (length s + 1 + d) = omega arith in
    rw z (sym (piece_one-more m ds (length s + 1 + d) s (omega arith)) ∙ piece_enough m ds s d)
