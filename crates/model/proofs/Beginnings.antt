-- The nodes of the templates' tree are the templates' beginnings, each once. The laws: number_hit, number-some, has_beginning, is_beginning, child-longer.
use mathlib.Core.Path.{◌≡◌, refl, sym, ◌∙◌, ap, ap₂, subst}
use mathlib.Core.Bool.{Bool, true, false}
use mathlib.Core.List.{List, [], ◌∷◌, ◌++◌, append_assoc}
use mathlib.Core.Logic.{◌⊎◌, inl, inr, ⊎_elim}
use Prim.Native.Nat.{ℕ, zero, suc, ◌+◌, ◌-◌, ◌≤◌, ◌<◌}
use native.Mathlib.Omega.{arith}
use lib.Dec.{eqb}
use lib.ListN.{length, get_or, length-append, get_or-append}
use borrow.Author.Tests.{eq-eqb, ne_eqb, eqb-true}
use Rattle.model.specs.declared.Marks.{Marks}
use Rattle.model.specs.Text.{Bytes}
use Rattle.model.specs.Parts.{Elem, lit, hole, stop, elems}
use Rattle.model.specs.Places.{same_elem, same_elems, number_from, add_beginnings, beginnings_from, beginnings, beginning_at, child_in, ends_in_hole, together}
use Rattle.model.proofs.Choices.{false-not-true}

-- ---- two beginnings are the same

-- elements that are the same are equal
pub one-elem : (x y : Elem) → same_elem x y ≡ true → x ≡ y
unfolding same_elem
one-elem (lit a) (lit b) e = ap lit (eqb-true a b e)
one-elem (lit a) hole e = false-not-true e
one-elem (lit a) stop e = false-not-true e
one-elem hole (lit b) e = false-not-true e
one-elem hole hole e = refl
one-elem hole stop e = false-not-true e
one-elem stop (lit b) e = false-not-true e
one-elem stop hole e = false-not-true e
one-elem stop stop e = refl

-- and each is the same as itself
pub elem_itself : (x : Elem) → same_elem x x ≡ true
unfolding same_elem
elem_itself (lit a) = eq-eqb a a refl
elem_itself hole = refl
elem_itself stop = refl

-- so are rows of them
one_list : (xs ys : List Elem) → same_elems xs ys ≡ true → xs ≡ ys
unfolding same_elems
one_list [] [] e = refl
one_list [] (y ∷ ys) e = false-not-true e
one_list (x ∷ xs) [] e = false-not-true e
one_list (x ∷ xs) (y ∷ ys) e = by (same_elem x y) (one-elem x y) (one_list xs ys) e
  where
    by : (t : Bool) → (t ≡ true → x ≡ y) → (same_elems xs ys ≡ true → xs ≡ ys) → ◌≡◌ {A = Bool} (elim t [ true ↦ same_elems xs ys | false ↦ false ]) true → x ∷ xs ≡ y ∷ ys
    by true f g h = ap₂ (λ (a : Elem) (b : List Elem). a ∷ b) (f refl) (g h)
    by false f g h = false-not-true h

-- and each is the same as itself
list_itself : (xs : List Elem) → same_elems xs xs ≡ true
unfolding same_elems
list_itself [] = refl
list_itself (x ∷ xs) = ap (λ (t : Bool). elim t as (λ _. Bool) [ true ↦ same_elems xs xs | false ↦ false ]) (elem_itself x) ∙ list_itself xs

-- ---- the number of a beginning

-- b is one of xs
pub record Member (b : List Elem) (xs : List (List Elem)) : Type 0 where
  pub place : ℕ
  pub there : place < length xs
  pub is : get_or xs place [] ≡ b

-- what has a number is one of them
pub number_hit : (k : ℕ) (b : List Elem) (xs : List (List Elem)) (r : ℕ) → number_from k b xs ≡ suc r → (i : ℕ) × (i < length xs) × (suc r ≡ k + i) × (get_or xs i [] ≡ b)
unfolding number_from
number_hit k b [] r e = absurd (omega arith)
number_hit k b (x ∷ xs) r e = by (same_elems b x) (one_list b x) (number_hit (suc k) b xs r) e
  where
    by : (t : Bool) → (t ≡ true → b ≡ x) → (number_from (suc k) b xs ≡ suc r → (i : ℕ) × (i < length xs) × (suc r ≡ suc k + i) × (get_or xs i [] ≡ b))
        → ◌≡◌ {A = ℕ} (elim t [ true ↦ k | false ↦ number_from (suc k) b xs ]) (suc r) → (i : ℕ) × (i < suc (length xs)) × (suc r ≡ k + i) × (get_or (x ∷ xs) i [] ≡ b)
    by true f ih h = (0, omega arith, omega (arith, h), sym (f refl))
    by false f ih h = let (i, l, q, w) = ih h in (suc i, omega (arith, l), omega (arith, q), w)

-- one of them has a number
pub number-some : (k : ℕ) (b : List Elem) (xs : List (List Elem)) → Member b xs → (r : ℕ) × (number_from (suc k) b xs ≡ suc r)
unfolding number_from
number-some k b xs h = at k xs h.place h.there h.is
  where
    at : (k : ℕ) (xs : List (List Elem)) (i : ℕ) → i < length xs → get_or xs i [] ≡ b → (r : ℕ) × (number_from (suc k) b xs ≡ suc r)
    at k [] i l w = absurd (omega arith)
    at k (x ∷ xs) zero l w = (k, ap (λ (y : List Elem). elim (same_elems b y) as (λ _. ℕ) [ true ↦ suc k | false ↦ number_from (suc (suc k)) b xs ]) w ∙ ap (λ (t : Bool). elim t as (λ _. ℕ) [ true ↦ suc k | false ↦ number_from (suc (suc k)) b xs ]) (list_itself b))
    at k (x ∷ xs) (suc i) l w = by (same_elems b x) (at (suc k) xs i (omega arith) w)
      where
        by : (t : Bool) → (r : ℕ) × (number_from (suc (suc k)) b xs ≡ suc r) → (r : ℕ) × (◌≡◌ {A = ℕ} (elim t [ true ↦ suc k | false ↦ number_from (suc (suc k)) b xs ]) (suc r))
        by true ih = (k, refl)
        by false ih = ih

-- ---- beginnings added

-- one of some is one of these with others behind
member_left : (b : List Elem) (xs ys : List (List Elem)) → Member b xs → Member b (xs ++ ys)
member_left b xs ys h = record { place = h.place; there = omega (arith, h.there, length-append xs ys); is = get_or-append xs ys [] h.place h.there ∙ h.is }

-- the last is one of them
last_at : (b : List Elem) (xs : List (List Elem)) → get_or (xs ++ b ∷ []) (length xs) [] ≡ b
last_at b [] = refl
last_at b (x ∷ xs) = last_at b xs

member_last : (b : List Elem) (xs : List (List Elem)) → Member b (xs ++ b ∷ [])
member_last b xs = record { place = length xs; there = omega (arith, length-append xs (b ∷ [])); is = last_at b xs }

-- one of them with one more is that one, or one before
member_split : (b q : List Elem) (xs : List (List Elem)) → Member b (xs ++ q ∷ []) → (b ≡ q) ⊎ Member b xs
member_split b q xs h = at xs h.place h.there h.is
  where
    at : (xs : List (List Elem)) (i : ℕ) → i < length (xs ++ q ∷ []) → get_or (xs ++ q ∷ []) i [] ≡ b → (b ≡ q) ⊎ Member b xs
    at [] zero l w = inl (sym w)
    at [] (suc i) l w = absurd (omega arith)
    at (x ∷ xs) zero l w = inr (record { place = 0; there = omega arith; is = w })
    at (x ∷ xs) (suc i) l w = ⊎_elim (λ z. inl z) (λ z. inr (record { place = suc z.place; there = omega (arith, z.there); is = z.is })) (at xs i (omega arith) w)

-- with q, if it isn't there
abbrev pub with_new : List Elem → List (List Elem) → List (List Elem)
with_new q bs = elim (eqb (number_from 1 q bs) 0) [ true ↦ bs ++ q ∷ [] | false ↦ bs ]

-- what was there stays
pub new_keeps : (b q : List Elem) (bs : List (List Elem)) → Member b bs → Member b (with_new q bs)
new_keeps b q bs h = by (eqb (number_from 1 q bs) 0)
  where
    by : (t : Bool) → Member b (elim t [ true ↦ bs ++ q ∷ [] | false ↦ bs ])
    by true = member_left b bs (q ∷ []) h
    by false = h

-- it is there then
new_has : (q : List Elem) (bs : List (List Elem)) → Member q (with_new q bs)
new_has q bs = by (number_from 1 q bs) refl
  where
    by : (r : ℕ) → number_from 1 q bs ≡ r → Member q (elim (eqb r 0) [ true ↦ bs ++ q ∷ [] | false ↦ bs ])
    by zero e = member_last q bs
    by (suc r) e = let (i, l, _, w) = number_hit 1 q bs r e in rw (ne_eqb (suc r) 0 (λ z. omega arith)) (record { place = i; there = l; is = w })

-- what is there then is q, or was there
pub new_split : (b q : List Elem) (bs : List (List Elem)) → Member b (with_new q bs) → (b ≡ q) ⊎ Member b bs
new_split b q bs h = by (eqb (number_from 1 q bs) 0) h
  where
    by : (t : Bool) → Member b (elim t [ true ↦ bs ++ q ∷ [] | false ↦ bs ]) → (b ≡ q) ⊎ Member b bs
    by true h = member_split b q bs h
    by false h = inr h

-- adding beginnings keeps what was there
pub add_keeps : (p es : List Elem) (bs : List (List Elem)) (b : List Elem) → Member b bs → Member b (add_beginnings p es bs)
unfolding add_beginnings
add_keeps p [] bs b h = h
add_keeps p (e ∷ es) bs b h = add_keeps (p ++ e ∷ []) es (with_new (p ++ e ∷ []) bs) b (new_keeps b (p ++ e ∷ []) bs h)

-- the beginnings that are added are there
pub add-has : (p front : List Elem) (e : Elem) (rest : List Elem) (bs : List (List Elem)) → Member (p ++ (front ++ e ∷ [])) (add_beginnings p (front ++ e ∷ rest) bs)
unfolding add_beginnings
add-has p [] e rest bs = add_keeps (p ++ e ∷ []) rest (with_new (p ++ e ∷ []) bs) (p ++ e ∷ []) (new_has (p ++ e ∷ []) bs)
add-has p (x ∷ front) e rest bs =
    subst (λ (b : List Elem). Member b (add_beginnings (p ++ x ∷ []) (front ++ e ∷ rest) (with_new (p ++ x ∷ []) bs))) (append_assoc p (x ∷ []) (front ++ e ∷ []))
    (add-has (p ++ x ∷ []) front e rest (with_new (p ++ x ∷ []) bs))

-- b begins t, and is not empty
unfoldable pub Begun : List Elem → List Elem → Type 0
Begun t b = (es : List Elem) × (t ≡ b ++ es) × (0 < length b)

-- what is there then begins p ++ es, or was there
pub add-only : (p es : List Elem) (bs : List (List Elem)) (b : List Elem) → Member b (add_beginnings p es bs) → Begun (p ++ es) b ⊎ Member b bs
unfolding add_beginnings Begun
add-only p [] bs b h = inr h
add-only p (e ∷ es) bs b h =
    let q = p ++ e ∷ [] in
    let w : q ++ es ≡ p ++ e ∷ es = append_assoc p (e ∷ []) es in
    ⊎_elim (λ (fs, x, y). inl (fs, sym w ∙ x, y))
    (λ z. ⊎_elim (λ x. inl (es, sym w ∙ ap (λ (l : List Elem). l ++ es) (sym x), omega (arith, ap length x, length-append p (e ∷ [])))) (λ x. inr x) (new_split b q bs z))
    (add-only q es (with_new q bs) b h)

-- ---- the beginnings of the templates

-- what was there stays
from_keeps : (m : Marks) (ts : List Bytes) (bs : List (List Elem)) (b : List Elem) → Member b bs → Member b (beginnings_from m ts bs)
unfolding beginnings_from
from_keeps m [] bs b h = h
from_keeps m (t ∷ ts) bs b h = from_keeps m ts (add_beginnings [] (elems m t) bs) b (add_keeps [] (elems m t) bs b h)

-- a template's beginnings are there
from-has : (m : Marks) (ts : List Bytes) (bs : List (List Elem)) (k : ℕ) (front : List Elem) (e : Elem) (rest : List Elem) → k < length ts → elems m (get_or ts k []) ≡ front ++ e ∷ rest
    → Member (front ++ e ∷ []) (beginnings_from m ts bs)
unfolding beginnings_from
from-has m [] bs k front e rest l w = absurd (omega arith)
from-has m (t ∷ ts) bs zero front e rest l w =
    from_keeps m ts (add_beginnings [] (elems m t) bs) (front ++ e ∷ []) (subst (λ (es : List Elem). Member (front ++ e ∷ []) (add_beginnings [] es bs)) (sym w) (add-has [] front e rest bs))
from-has m (t ∷ ts) bs (suc k) front e rest l w = from-has m ts (add_beginnings [] (elems m t) bs) k front e rest (omega arith) w

-- b is a beginning of a template that isn't empty
pub record Beginning (m : Marks) (ts : List Bytes) (b : List Elem) : Type 0 where
  pub which : ℕ
  pub place : which < length ts
  pub rest : List Elem
  pub is : elems m (get_or ts which []) ≡ b ++ rest
  pub some-elem : 0 < length b

-- and nothing else is added
from-only : (m : Marks) (ts : List Bytes) (bs : List (List Elem)) (b : List Elem) → Member b (beginnings_from m ts bs) → Beginning m ts b ⊎ Member b bs
unfolding beginnings_from Begun
from-only m [] bs b h = inr h
from-only m (t ∷ ts) bs b h =
    ⊎_elim (λ x. inl (record { which = suc x.which; place = omega (arith, x.place); rest = x.rest; is = x.is; some-elem = x.some-elem }))
    (λ z. ⊎_elim (λ (es, x, y). inl (record { which = 0; place = omega arith; rest = es; is = x; some-elem = y })) (λ x. inr x) (add-only [] (elems m t) bs b z))
    (from-only m ts (add_beginnings [] (elems m t) bs) b h)

-- a template's beginnings are among them
pub has_beginning : (m : Marks) (ts : List Bytes) (k : ℕ) (front : List Elem) (e : Elem) (rest : List Elem) → k < length ts → elems m (get_or ts k []) ≡ front ++ e ∷ rest → Member (front ++ e ∷ []) (beginnings m ts)
unfolding beginnings
has_beginning m ts k front e rest l w = from-has m ts [] k front e rest l w

-- and no others
pub is_beginning : (m : Marks) (ts : List Bytes) (b : List Elem) → Member b (beginnings m ts) → Beginning m ts b
unfolding beginnings
is_beginning m ts b h = ⊎_elim (λ x. x) (λ z. absurd (omega (arith, z.there))) (from-only m ts [] b h)

-- ---- children

-- a child's beginning has its element more
pub child_is : (bs : List (List Elem)) (i : ℕ) (e : Elem) (c : ℕ) → child_in bs i e ≡ suc c → Member (beginning_at bs i ++ e ∷ []) bs × (beginning_at bs (suc c) ≡ beginning_at bs i ++ e ∷ []) × (c < length bs)
unfolding child_in beginning_at
child_is bs i e c w =
    let (k, l, q, x) = number_hit 1 (beginning_at bs i ++ e ∷ []) bs c w in
    let z : c ≡ k = omega (arith, q) in
    (record { place = k; there = l; is = x }, ap (λ (j : ℕ). get_or bs j []) z ∙ x, omega (arith, z, l))

-- one of them is no longer than all together
member_short : (b : List Elem) (xs : List (List Elem)) → Member b xs → length b ≤ together xs
unfolding together
member_short b xs h = at xs h.place h.there h.is
  where
    at : (xs : List (List Elem)) (i : ℕ) → i < length xs → get_or xs i [] ≡ b → length b ≤ together xs
    at [] i l w = absurd (omega arith)
    at (x ∷ xs) zero l w = omega (arith, ap length w)
    at (x ∷ xs) (suc i) l w = omega (arith, at xs i (omega arith) w)

-- what is left of the longest template falls at a child
abbrev pub rank_in : List (List Elem) → ℕ → ℕ
rank_in bs i = together bs - length (beginning_at bs i)

-- which it does, as the beginning gets longer
pub rank_falls : (bs : List (List Elem)) (i : ℕ) (e : Elem) (c : ℕ) → child_in bs i e ≡ suc c → rank_in bs (suc c) < rank_in bs i
rank_falls bs i e c w =
    let (h, x, _) = child_is bs i e c w in
    omega (arith, member_short (beginning_at bs i ++ e ∷ []) bs h, length-append (beginning_at bs i) (e ∷ []), ap length x)

-- whether a beginning ends in a placeholder
pub ends_in : (p : List Elem) (e : Elem) → ends_in_hole (p ++ e ∷ []) ≡ same_elem e hole
unfolding ends_in_hole
ends_in [] e = refl
ends_in (x ∷ []) e = refl
ends_in (x ∷ y ∷ p) e = ends_in (y ∷ p) e
