-- One turn of each loop of the cycle, over plain values. The hypotheses are what the code learns on its way; `ReadsAbove` says
-- what is read at every bound that is large enough, so no law says that the bound does not matter.
use mathlib.Core.Path.{◌≡◌, refl, sym, ap, ◌∙◌}
use mathlib.Core.Bool.{Bool, true, false, cond}
use mathlib.Core.Option.{none, some}
use mathlib.Core.List.{List, [], ◌∷◌}
use Prim.Native.Nat.{ℕ, zero, suc, ◌+◌, ◌*◌, ◌≤◌, ◌<◌}
use native.Mathlib.Nat.{le_refl}
use native.Mathlib.Omega.{arith}
use borrow.Author.Tests.{ne_eqb}
use lib.Dec.{eqb, lit<}
use lib.IntN.{ℤ, pos}
use lib.ListN.{length}
use lib.Signed.{mag}
use Rattle.model.specs.declared.Marks.{Marks}
use Rattle.model.specs.Store.{Store}
use Rattle.model.specs.Value.{value_fault, Read, and_then, giving, expression, sum, product, factors, operand, whole, value_of}
use Rattle.std.specs.Prelude.{Some, None}
use Rattle.std.specs.Bool.{then_some}
use Rattle.number.specs.Number.{end, step_value, Gives, Valued}
use Rattle.value.specs.declared.Parsed.{Parsed}
use Rattle.number.specs.declared.Step.{Step}
use Rattle.number.specs.declared.Step.TheVariants.{First, Negated, Plus, Minus, Times, Divide}
use Rattle.number.proofs.Signed.{read_back, told_in, gives_value}
use Rattle.value.specs.Turns.{NextTurn, start_of, next_of, next_sum, next_factor}
use Rattle.value.specs.Reads.{Parsing, read_of, LeavesBelow, ReadsAbove, Values}
use Rattle.value.proofs.Operands.{reads_above, from_suc}

wider : (r : Parsing) (n n' : ℕ) → n ≤ n' → LeavesBelow n r → LeavesBelow n' r
wider (Some p) n n' l w = omega (arith, l, w)
wider None n n' l w = tt

pub left_by : {r : Parsing} {μ n : ℕ} {F : ℕ → Read} {p : Parsed} → r ≡ Some p → ReadsAbove μ n r F → length p.rest.now < n
left_by q c = rw q at c.leaves

-- what is left where the next value begins, behind a value that leaves l
abbrev pub left_of : List ℕ → NextTurn → List ℕ
left_of l (Some t) = t.1
left_of l None = l

-- what comes of it leaves fewer bytes than these
abbrev most_of : List ℕ → NextTurn → ℕ
most_of l (Some t) = length t.1
most_of l None = length l + 1

-- a turn goes forward
abbrev pub Shorter : List ℕ → NextTurn → Type 0
Shorter l (Some t) = length t.1 < length l
Shorter l None = Unit {0}

abbrev NoLonger : List ℕ → NextTurn → Type 0
NoLonger l (Some t) = length t.1 ≤ length l
NoLonger l None = Unit {0}

shorter-left : (l : List ℕ) (j : NextTurn) → Shorter l j → length (left_of l j) ≤ length l
shorter-left l (Some t) h = omega (arith, h)
shorter-left l None h = le_refl _

shorter-most : (l : List ℕ) (j : NextTurn) → Shorter l j → most_of l j ≤ length l + 1
shorter-most l (Some t) h = omega (arith, h)
shorter-most l None h = le_refl _

left-no_longer : (l : List ℕ) (j : NextTurn) → NoLonger l j → length (left_of l j) ≤ length l
left-no_longer l (Some t) h = h
left-no_longer l None h = le_refl _

most-no_longer : (l : List ℕ) (j : NextTurn) → NoLonger l j → most_of l j ≤ length l + 1
most-no_longer l (Some t) h = omega (arith, h)
most-no_longer l None h = le_refl _

-- ---- sums and products alike

-- a step: g reads the next value, h goes on after it
abbrev step_of : (ℕ → List ℕ → Read) → (ℕ → ℤ → List ℕ → Read) → ℕ → ℤ → Step → List ℕ → Read
step_of g h n a k l = and_then (g n l) (λ w r. and_then (giving (step_value k a w) r) (λ u t. h n u t))

-- what a turn makes of the value a, which leaves l
abbrev joined : (ℕ → List ℕ → Read) → (ℕ → ℤ → List ℕ → Read) → ℕ → ℤ → List ℕ → NextTurn → Read
joined g h zero a l j = none
joined g h (suc n) a l None = some (a, l)
joined g h (suc n) a l (Some t) = step_of g h n a t.0 t.1

-- What `expression` and `product` have in common: the level below, g, and the way on, h. Its measure is d more than 3 for each byte left.
pub record Level : Type 0 where
  pub d : ℕ
  pub d' : ℕ
  pub g : ℕ → List ℕ → Read
  pub h : ℕ → ℤ → List ℕ → Read
  pub more : List ℕ → NextTurn
  pub down : d' < d
  pub on : (n : ℕ) (a : ℤ) (l : List ℕ) → h n a l ≡ joined g h n a l (more l)
  pub shorter : (l : List ℕ) → Shorter l (more l)

-- r comes of the value in p and the turn j
abbrev pub From : Level → Parsing → Parsed → NextTurn → Type 0
From L r p j = ReadsAbove (3 * length (left_of p.rest.now j) + L.d) (most_of p.rest.now j) r (λ n. joined L.g L.h n p.value p.rest.now j)

-- r comes of the level below, where l is left
abbrev pub Below : Level → Parsing → List ℕ → Type 0
Below L r l = ReadsAbove (3 * length l + L.d') (length l) r (λ n. L.g n l)

module _ (L : Level) (p : Parsed) {j : NextTurn} where
  open L use {d, d', g, h, more, down, on, shorter}

  done : j ≡ None → From L (Some p) p j
  done q = rw q (reads_above (Some p) (from_suc (λ n. joined g h n p.value p.rest.now None) (some (p.value, p.rest.now)) (3 * length p.rest.now + d) (λ n _. refl)) (omega arith))

  module _ {k : Step} {l : List ℕ} (q : j ≡ Some (k, l)) {r : Parsing} (b : Below L r l) where
    fails : r ≡ None → From L None p j
    unfolding and_then
    fails e = rw q (reads_above None (from_suc (λ n. joined g h n p.value p.rest.now (Some (k, l))) none (3 * length l + d) (λ n i. sym (rw (← b.is n (omega (arith, down, i)), e)))) tt)

    -- x is what `apply` gives
    module _ {v : Parsed} (w : r ≡ Some v) {x : Valued} (made : Gives x (step_value k p.value v.value)) where
      faults : x ≡ None → From L None p j
      unfolding and_then giving
      faults c =
          let f : none ≡ step_value k p.value v.value = rw c at made.is in
          rw q (reads_above None (from_suc (λ n. joined g h n p.value p.rest.now (Some (k, l))) none (3 * length l + d) (λ n i. sym (rw (← b.is n (omega (arith, down, i)), w, ← f)))) tt)

      goes_on : {z : ℤ} → x ≡ Some z → {r' : Parsing} → From L r' (record { value = z; rest = v.rest }) (more v.rest.now) → From L r' p j
      unfolding and_then giving
      goes_on {z} i {r'} c =
          let near = left_by w b in
          let f : some z ≡ step_value k p.value v.value = rw i at made.is in
          let t = v.rest.now in
          rw q (reads_above r'
          (from_suc (λ n. joined g h n p.value p.rest.now (Some (k, l))) (read_of r') (3 * length l + d)
          (λ n m. c.is n (omega (arith, near, shorter-left t (more t) (shorter t), m)) ∙ sym (on n z t) ∙ sym (rw (← b.is n (omega (arith, down, m)), w, ← f))))
          (wider r' (most_of t (more t)) (length l) (omega (arith, near, shorter-most t (more t) (shorter t))) c.leaves))

-- The invariant of both loops: what comes of the turn j with the value in p comes of F, the whole, at whose start s was left. L is
-- the level, a sum's or a product's; every bound above μ is enough for F, and the whole leaves fewer than n bytes.
pub record Going (L : Level) (μ n : ℕ) (F : ℕ → Read) (s : List ℕ) (p : Parsed) (j : NextTurn) : Type 0 where
  pub within : length (left_of p.rest.now j) ≤ length s
  pub fits : mag p.value < end
  pub gives : (r : Parsing) → From L r p j → ReadsAbove μ n r F

module _ {L : Level} {μ n : ℕ} {F : ℕ → Read} {s : List ℕ} {p : Parsed} {j : NextTurn} (reading : Going L μ n F s p j) where
  pub reading_done : j ≡ None → ReadsAbove μ n (Some p) F
  reading_done q = reading.gives _ (done L p q)

  module _ {k : Step} {l : List ℕ} (q : j ≡ Some (k, l)) where
    pub reading_within : length l ≤ length s
    reading_within = rw q at reading.within

    module _ {r : Parsing} (b : Below L r l) where
      pub reading_fails : r ≡ None → ReadsAbove μ n None F
      reading_fails e = reading.gives _ (fails L p q b e)

      module _ {v : Parsed} (w : r ≡ Some v) {x : Valued} (made : Gives x (step_value k (read_back p.value) (read_back v.value))) (in-v : mag v.value < end) where
        plainly : Gives x (step_value k p.value v.value)
        plainly = rw (told_in p.value reading.fits, told_in v.value in-v) at made

        pub reading_faults : x ≡ None → ReadsAbove μ n None F
        reading_faults e = reading.gives _ (faults L p q b w plainly e)

        pub reading_on : {z : ℤ} → x ≡ Some z → mag z < end → {j' : NextTurn} → j' ≡ L.more v.rest.now → Going L μ n F s (record { value = read_back z; rest = v.rest }) j'
        reading_on {z} e in-z {j'} i = rw (i, told_in z in-z) (record {
          within = omega (arith, reading_within, left_by w b, shorter-left v.rest.now (L.more v.rest.now) (L.shorter v.rest.now));
          fits = in-z;
          gives = λ r' c. reading.gives r' (goes_on L p q b w plainly e c);
        })

-- each turn leaves fewer bytes
pub smaller : (L : Level) (p : Parsed) {j : NextTurn} {k : Step} {l : List ℕ} → j ≡ Some (k, l) → {r : Parsing} → Below L r l → {v : Parsed} → r ≡ Some v → {j' : NextTurn} → j' ≡ L.more v.rest.now → length (left_of v.rest.now j') < length (left_of p.rest.now j)
smaller L p q b {v} w i = rw (q, i) (omega (arith, left_by w b, shorter-left v.rest.now (L.more v.rest.now) (L.shorter v.rest.now)))

-- ---- the definitions, by the tests that the code makes

-- a test of the definition is the test of the code
by_test : {A B : Type 0} (F : A → B) (t : Bool) (x y : B) (i j : A) → x ≡ F i → y ≡ F j → ◌≡◌ {A = B} (elim t [ true ↦ x | false ↦ y ]) (F (cond t i j))
by_test F true x y i j p q = p
by_test F false x y i j p q = q

pub next-shorter : (l : List ℕ) (b : ℕ) (k : Step) (b' : ℕ) (k' : Step) → Shorter l (next_of l b k b' k')
unfolding next_of
next-shorter [] b k b' k' = tt
next-shorter (x ∷ l) b k b' k' = go (eqb x b) (eqb x b')
  where
    go : (t u : Bool) → Shorter (x ∷ l) (cond t (Some (k, l)) (cond u (Some (k', l)) None))
    go true u = omega arith
    go false true = omega arith
    go false false = tt

start-no_longer : (m : Marks) (l : List ℕ) → NoLonger l (start_of m l)
unfolding start_of
start-no_longer m [] = tt
start-no_longer m (x ∷ l) = go (eqb x m.right) (eqb x m.minus) (eqb x m.plus)
  where
    go : (t u v : Bool) → NoLonger (x ∷ l) (cond t None (cond u (Some (Negated, l)) (cond v (Some (First, l)) (Some (First, x ∷ l)))))
    go true u v = tt
    go false true v = omega arith
    go false false true = omega arith
    go false false false = le_refl _

module _ (m : Marks) (st : Store) where
  abbrev products : ℕ → List ℕ → Read
  products n t = product n m st t

  abbrev sums : ℕ → ℤ → List ℕ → Read
  sums n a t = sum n m st a t

  abbrev operands : ℕ → List ℕ → Read
  operands n t = operand n m st t

  abbrev powers : ℕ → ℤ → List ℕ → Read
  powers n a t = factors n m st a t

  pub sum_on : (n : ℕ) (a : ℤ) (l : List ℕ) → sum n m st a l ≡ joined products sums n a l (next_sum m l)
  unfolding sum next_of
  sum_on zero a l = refl
  sum_on (suc n) a [] = refl
  sum_on (suc n) a (x ∷ l) =
      by_test (joined products sums (suc n) a (x ∷ l)) (eqb x m.plus) _ _ (Some (Plus, l)) _ refl
      (by_test (joined products sums (suc n) a (x ∷ l)) (eqb x m.minus) _ _ (Some (Minus, l)) None refl refl)

  pub factors_on : (n : ℕ) (a : ℤ) (l : List ℕ) → factors n m st a l ≡ joined operands powers n a l (next_factor m l)
  unfolding factors next_of
  factors_on zero a l = refl
  factors_on (suc n) a [] = refl
  factors_on (suc n) a (x ∷ l) =
      by_test (joined operands powers (suc n) a (x ∷ l)) (eqb x m.times) _ _ (Some (Times, l)) _ refl
      (by_test (joined operands powers (suc n) a (x ∷ l)) (eqb x m.divide) _ _ (Some (Divide, l)) None refl refl)

  abbrev pub expression_level : Level
  expression_level = record { d = 3; d' = 2; g = products; h = sums; more = next_sum m; down = lit< tt; on = sum_on; shorter = λ l. next-shorter l m.plus Plus m.minus Minus }

  abbrev pub product_level : Level
  product_level = record { d = 2; d' = 1; g = operands; h = powers; more = next_factor m; down = lit< tt; on = factors_on; shorter = λ l. next-shorter l m.times Times m.divide Divide }

  expression_starts : (n : ℕ) (l : List ℕ) → expression n m st l ≡ joined products sums n (pos 0) l (start_of m l)
  unfolding expression start_of and_then giving
  expression_starts zero l = refl
  expression_starts (suc n) [] = refl
  expression_starts (suc n) (x ∷ l) =
      by_test F (eqb x m.right) _ _ None _ refl
      (by_test F (eqb x m.minus) _ _ (Some (Negated, l)) _ refl
      (by_test F (eqb x m.plus) _ _ (Some (First, l)) (Some (First, x ∷ l)) refl refl))
    where
      F : NextTurn → Read
      F = joined products sums (suc n) (pos 0) (x ∷ l)

  product_starts : (n : ℕ) (l : List ℕ) → product n m st l ≡ joined operands powers n (pos 0) l (Some (First, l))
  unfolding product and_then giving
  product_starts zero l = refl
  product_starts (suc n) l = refl

  module _ (l : List ℕ) where
    abbrev pub Whole : Parsing → Type 0
    Whole r = ReadsAbove (3 * length l + 3) (length l + 1) r (λ n. expression n m st l)

    -- the loop of a sum and that of a product
    abbrev pub Summing : Parsed → NextTurn → Type 0
    Summing p j = Going expression_level (3 * length l + 3) (length l + 1) (λ n. expression n m st l) l p j

    abbrev pub Multiplying : Parsed → NextTurn → Type 0
    Multiplying p j = Going product_level (3 * length l + 2) (length l) (λ n. product n m st l) l p j

    pub begins : {p : Parsed} → p.value ≡ pos 0 → p.rest.now ≡ l → {j : NextTurn} → j ≡ start_of m l → Summing p j
    begins {p} z q {j} u =
        let near = left-no_longer l (start_of m l) (start-no_longer m l) in
        rw u (record {
          within = rw q near;
          fits = rw z (omega arith);
          gives = λ r c. reads_above r
              (λ n h. c.is n (rw q (omega (arith, near, h))) ∙ rw (z, q) (sym (expression_starts n l)))
              (wider r (most_of p.rest.now (start_of m l)) (length l + 1) (rw q (most-no_longer l (start_of m l) (start-no_longer m l))) c.leaves);
        })

    pub begins_product : {p : Parsed} → p.value ≡ pos 0 → p.rest.now ≡ l → Multiplying p (Some (First, l))
    begins_product z q = record {
      within = le_refl _;
      fits = rw z (omega arith);
      gives = λ r c. reads_above r (λ n h. c.is n h ∙ rw (z, q) (sym (product_starts n l))) c.leaves;
    }

-- ---- the text whole

module _ {m : Marks} {es : Store} {s : List ℕ} {v : Parsing} (c : Whole m es s v) where
  valued : {r : Valued} → Gives r (whole (read_of v)) → Values m es s r
  unfolding value_of
  valued g =
      let e = ap whole (c.is (5 * (length s + 1)) (omega arith)) in
      record { is = sym (g.is ∙ e); number = g.number ∙ ap value_fault e; fits = g.fits }

  pub no_value : v ≡ None → Values m es s None
  unfolding whole
  no_value q = valued (gives_value (rw q) tt)

  pub value_read : {p : Parsed} → v ≡ Some p → {q : Bool} → q ≡ eqb (length p.rest.now) 0 → mag p.value < end → {r : Valued} → r ≡ then_some q (read_back p.value) → Values m es s r
  unfolding whole
  value_read {p} i {q} e f {r} w = valued (rw (i, w, e, told_in p.value f) (go p.rest.now))
    where
      go : (t : List ℕ) → Gives (then_some (eqb (length t) 0) p.value) (whole (some (p.value, t)))
      go [] = gives_value {o = some p.value} refl f
      go (x ∷ t) = rw (ne_eqb (suc (length t)) 0 (λ e. omega arith)) (gives_value {o = none} refl tt)
