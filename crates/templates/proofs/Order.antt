-- The order of two templates by their keys, and of all.
use mathlib.Core.Path.{◌≡◌, refl, ◌∙◌, ap}
use mathlib.Core.Bool.{Bool, true, false}
use mathlib.Core.Logic.{◌⊎◌, inl, inr, ⊎_elim}
use mathlib.Core.List.{List, [], ◌∷◌, ◌++◌}
use Prim.Native.Nat.{ℕ, zero, suc, ◌≤◌, ◌<◌}
use native.Mathlib.Omega.{arith}
use native.Mathlib.Nat.{eq-or-lt_of_le}
use borrow.Author.Tests.{eqb-true, eq-eqb, ne_eqb, ltb-true, lt-ltb}
use lib.Dec.{eqb, ltb}
use lib.ListN.{length, get_or, length-append, get_or-append}
use lib.Seq.{get_or_at}
use Rattle.model.specs.Text.{Bytes}
use Rattle.templates.specs.Keys.{byte_key, key_of, keys, Share}
use Rattle.templates.specs.Order.{precedes, placed, InOrder, GoesTo}
use Rattle.templates.proofs.Keys.{lt_or, share_sym, share_trans}

-- ---- two templates

module _ (p x y : ℕ) (s t : Bytes) where
  -- templates in order have the same first byte, or the first one has the lesser key there
  pub first_keys : precedes p (x ∷ s) (y ∷ t) ≡ true → ((x ≡ y) × (precedes p s t ≡ true)) ⊎ (byte_key p x < byte_key p y)
  unfolding precedes
  first_keys = by (eqb x y) refl
    where
      by : (b : Bool) → eqb x y ≡ b → ◌≡◌ {A = Bool} (elim b [ true ↦ precedes p s t | false ↦ ltb (byte_key p x) (byte_key p y) ]) true
          → ((x ≡ y) × (precedes p s t ≡ true)) ⊎ (byte_key p x < byte_key p y)
      by true e u = inl (eqb-true x y e, u)
      by false e u = inr (ltb-true (byte_key p x) (byte_key p y) u)

  -- and so they are in order
  pub first_same : x ≡ y → precedes p s t ≡ true → precedes p (x ∷ s) (y ∷ t) ≡ true
  unfolding precedes
  first_same e u = rw (eq-eqb x y e, precedes) u

  pub first_less : byte_key p x < byte_key p y → precedes p (x ∷ s) (y ∷ t) ≡ true
  unfolding precedes
  first_less u = rw (ne_eqb x y (λ e. omega (arith, ap (byte_key p) e)), precedes) (lt-ltb (byte_key p x) (byte_key p y) u)

-- the order is transitive
pub precedes_trans : (p : ℕ) (a b c : Bytes) → precedes p a b ≡ true → precedes p b c ≡ true → precedes p a c ≡ true
unfolding precedes
precedes_trans p [] [] c u v = v
precedes_trans p [] (y ∷ b) [] u v = refl
precedes_trans p [] (y ∷ b) (z ∷ c) u v = lt-ltb 256 (byte_key p z) (⊎_elim
    (λ h. omega (arith, ltb-true 256 (byte_key p y) u, ap (byte_key p) h.0))
    (λ h. omega (arith, ltb-true 256 (byte_key p y) u)) (first_keys p y z b c v))
precedes_trans p (x ∷ a) [] [] u v = u
precedes_trans p (x ∷ a) [] (z ∷ c) u v = first_less p x z a c (omega (arith, ltb-true (byte_key p x) 256 u, ltb-true 256 (byte_key p z) v))
precedes_trans p (x ∷ a) (y ∷ b) [] u v = lt-ltb (byte_key p x) 256 (⊎_elim
    (λ h. omega (arith, ltb-true (byte_key p y) 256 v, ap (byte_key p) h.0))
    (λ h. omega (arith, ltb-true (byte_key p y) 256 v)) (first_keys p x y a b u))
precedes_trans p (x ∷ a) (y ∷ b) (z ∷ c) u v = ⊎_elim
    (λ h. ⊎_elim
    (λ g. first_same p x z a c (h.0 ∙ g.0) (precedes_trans p a b c h.1 g.1))
    (λ g. first_less p x z a c (omega (arith, ap (byte_key p) h.0))) (first_keys p y z b c v))
    (λ h. ⊎_elim
    (λ g. first_less p x z a c (omega (arith, ap (byte_key p) g.0)))
    (λ g. first_less p x z a c (omega arith)) (first_keys p y z b c v))
    (first_keys p x y a b u)

-- where the first d keys of two templates agree, their next keys ascend with them
key_ascends : (p : ℕ) (s t : Bytes) (d : ℕ) → precedes p s t ≡ true → ((x : ℕ) → x < d → key_of p s x ≡ key_of p t x) → key_of p s d ≤ key_of p t d
unfolding precedes key_of
key_ascends p [] [] d u h = omega arith
key_ascends p [] (y ∷ t) zero u h = omega (arith, ltb-true 256 (byte_key p y) u)
key_ascends p [] (y ∷ t) (suc d) u h = absurd (omega (arith, ltb-true 256 (byte_key p y) u, h 0 (omega arith)))
key_ascends p (x ∷ s) [] zero u h = omega (arith, ltb-true (byte_key p x) 256 u)
key_ascends p (x ∷ s) [] (suc d) u h = absurd (omega (arith, ltb-true (byte_key p x) 256 u, h 0 (omega arith)))
key_ascends p (x ∷ s) (y ∷ t) zero u h = ⊎_elim (λ g. omega (arith, ap (byte_key p) g.0)) (λ g. omega arith) (first_keys p x y s t u)
key_ascends p (x ∷ s) (y ∷ t) (suc d) u h = ⊎_elim
    (λ g. key_ascends p s t d g.1 (λ z w. h (suc z) (omega arith)))
    (λ g. absurd (omega (arith, h 0 (omega arith)))) (first_keys p x y s t u)

-- ---- all templates

-- the keys at place d of the templates that have their first d elements in common with template t ascend in the order
pub keys_ascend : {p : ℕ} {ts : List Bytes} {order : ℕ → ℕ} → InOrder p ts order → (i j d t : ℕ) → i ≤ j → j < length ts
    → Share (keys p ts) (order i) t d → Share (keys p ts) (order j) t d → keys p ts (order i) d ≤ keys p ts (order j) d
keys_ascend {p} {ts} {order} h i j d t u v a b = ⊎_elim
    (λ e. rw e (omega arith))
    (λ w. key_ascends p _ _ d (h.ascending i j w v) (share_trans (keys p ts) (order i) t (order j) d a (share_sym (keys p ts) (order j) t d b)))
    (eq-or-lt_of_le {n = i} {m = j} u)

-- ---- a template more: the order has its number at its place, and the numbers from there on one place further

module _ {p : ℕ} {ts : List Bytes} {order order' : ℕ → ℕ} {c : Bytes} {place : ℕ} (so : InOrder p ts order) (g : GoesTo p ts order c place) (u : place ≤ length ts)
    (before : (i : ℕ) → i < place → order' i ≡ order i) (there : order' place ≡ length ts)
    (further : (i : ℕ) → place ≤ i → i < length ts → order' (suc i) ≡ order i) where
  -- there is one template more
  size : length (ts ++ (c ∷ [])) ≡ suc (length ts)
  size = omega (arith, length-append ts (c ∷ []))

  -- a place of the new order: before c, c's, or one past a place of the old order
  data Where (i : ℕ) : Type 0 where
    low : i < place → Where i
    its : i ≡ place → Where i
    high : (j : ℕ) → i ≡ suc j → place ≤ j → j < length ts → Where i

  -- each place is one of these
  where_is : (i : ℕ) → i < suc (length ts) → Where i
  where_is zero w = ⊎_elim (λ z. low z) (λ z. its (omega arith)) (lt_or 0 place)
  where_is (suc j) w = ⊎_elim (λ z. low z) (λ z. ⊎_elim (λ y. high j refl (omega arith) (omega arith)) (λ y. its (omega arith)) (lt_or place (suc j))) (lt_or (suc j) place)

  -- the templates there
  low_is : (i : ℕ) → i < place → placed (ts ++ (c ∷ [])) order' i ≡ placed ts order i
  low_is i w = ap (λ (n : ℕ). get_or (ts ++ (c ∷ [])) n []) (before i w) ∙ get_or-append ts (c ∷ []) [] (order i) (so.within i (omega arith))

  its_is : placed (ts ++ (c ∷ [])) order' place ≡ c
  its_is = ap (λ (n : ℕ). get_or (ts ++ (c ∷ [])) n []) there ∙ get_or_at ts c [] [] (length ts) refl

  high_is : (j : ℕ) → place ≤ j → j < length ts → placed (ts ++ (c ∷ [])) order' (suc j) ≡ placed ts order j
  high_is j w x = ap (λ (n : ℕ). get_or (ts ++ (c ∷ [])) n []) (further j w x) ∙ get_or-append ts (c ∷ []) [] (order j) (so.within j x)

  -- each place has the number of a template
  number-within : (i : ℕ) → Where i → order' i < suc (length ts)
  number-within i (low w) = omega (arith, before i w, so.within i (omega arith))
  number-within i (its w) = omega (arith, there, ap order' w)
  number-within i (high j e w x) = omega (arith, further j w x, so.within j x, ap order' e)

  -- each template has a place
  every_number : (k : ℕ) → k < suc (length ts) → (i : ℕ) × (i < suc (length ts)) × (order' i ≡ k)
  every_number k w = ⊎_elim
      (λ z. let (i, a, e) = so.every k z in ⊎_elim (λ y. (i, omega arith, (before i y ∙ e))) (λ y. (suc i, omega arith, (further i y a ∙ e))) (lt_or i place))
      (λ z. (place, omega arith, (there ∙ omega arith))) (lt_or k (length ts))

  -- the templates ascend
  places_ascend : (i j : ℕ) → i < j → Where i → Where j → precedes p (placed (ts ++ (c ∷ [])) order' i) (placed (ts ++ (c ∷ [])) order' j) ≡ true
  places_ascend i j w (low a) (low b) = rw (low_is i a, low_is j b) (so.ascending i j w (omega arith))
  places_ascend i j w (low a) (its b) = rw (b, low_is i a, its_is) (g.low i a)
  places_ascend i j w (low a) (high l e x y) = rw (e, low_is i a, high_is l x y) (so.ascending i l (omega arith) y)
  places_ascend i j w (its a) (low b) = absurd (omega arith)
  places_ascend i j w (its a) (its b) = absurd (omega arith)
  places_ascend i j w (its a) (high l e x y) = rw (a, e, its_is, high_is l x y) (g.high l x y)
  places_ascend i j w (high k d a b) (low x) = absurd (omega arith)
  places_ascend i j w (high k d a b) (its x) = absurd (omega arith)
  places_ascend i j w (high k d a b) (high l e x y) = rw (d, e, high_is k a b, high_is l x y) (so.ascending k l (omega arith) y)

  -- so they are in order
  pub in_order_more : InOrder p (ts ++ (c ∷ [])) order'
  in_order_more = record {
    within = λ i w. omega (arith, size, number-within i (where_is i (omega (arith, size))));
    every = λ k w. let (i, a, e) = every_number k (omega (arith, size)) in (i, omega (arith, size), e);
    ascending = λ i j w x. places_ascend i j w (where_is i (omega (arith, size))) (where_is j (omega (arith, size)));
  }
