-- The loop of `find_place`: a template's place in the order. Its neighbours there have the most in common with it.
use mathlib.Core.Path.{◌≡◌, refl, sym, ◌∙◌, ap}
use mathlib.Core.Bool.{Bool, true, false}
use mathlib.Core.Logic.{◌⊎◌, inl, inr, ⊎_elim}
use mathlib.Core.List.{List, [], ◌∷◌}
use Prim.Native.Nat.{ℕ, zero, suc, ◌+◌, ◌-◌, ◌/◌, ◌≤◌, ◌<◌, max}
use native.Mathlib.Omega.{arith}
use native.Mathlib.Nat.{eq-or-lt_of_le}
use native.Mathlib.Numerals.{add-one}
use borrow.Author.Tests.{ltb-true}
use lib.ListN.{length, get_or}
use Rattle.model.specs.Text.{Bytes}
use Rattle.templates.specs.Count.{common, longest, Counted}
use Rattle.templates.specs.Keys.{byte_key}
use Rattle.templates.specs.Order.{precedes, placed, InOrder, Finds, Compared}
use Rattle.templates.proofs.Count.{longest_upper, longest_reached, counted}
use Rattle.templates.proofs.Matching.{common-same, common_other}
use Rattle.templates.proofs.Keys.{eq_or, lt_or}
use Rattle.templates.proofs.Order.{first_keys, precedes_trans}

-- ---- a template between two others

-- between two templates that have the same first byte it has that byte too
between : (p x y z : ℕ) (a b c : Bytes) → x ≡ z → precedes p (x ∷ a) (y ∷ b) ≡ true → precedes p (y ∷ b) (z ∷ c) ≡ true → (x ≡ y) × (precedes p a b ≡ true) × (precedes p b c ≡ true)
between p x y z a b c e u v =
    let k = ap (byte_key p) e in
    ⊎_elim
    (λ g. ⊎_elim (λ h. (g.0, g.1, h.1)) (λ h. absurd (omega (arith, ap (byte_key p) g.0))) (first_keys p y z b c v))
    (λ g. ⊎_elim (λ h. absurd (omega (arith, ap (byte_key p) h.0))) (λ h. absurd (omega arith)) (first_keys p y z b c v))
    (first_keys p x y a b u)

-- b is between a and c: b has no less in common with c than a has
nearer : (p : ℕ) (a b c : Bytes) → precedes p a b ≡ true → precedes p b c ≡ true → common c a ≤ common c b
unfolding common precedes
nearer p [] [] c u v = omega arith
nearer p [] (y ∷ b) [] u v = absurd (omega (arith, ltb-true 256 (byte_key p y) u, ltb-true (byte_key p y) 256 v))
nearer p [] (y ∷ b) (z ∷ c) u v = omega arith
nearer p (x ∷ a) b [] u v = omega arith
nearer p (x ∷ a) [] (z ∷ c) u v = ⊎_elim
    (λ e. absurd (omega (arith, ltb-true (byte_key p x) 256 u, ltb-true 256 (byte_key p z) v, ap (byte_key p) e)))
    (λ n. omega (arith, common_other z x c a n)) (eq_or z x)
nearer p (x ∷ a) (y ∷ b) (z ∷ c) u v = ⊎_elim
    (λ e. let (q, g, h) = between p x y z a b c (sym e) u v in omega (arith, common-same z x c a e, common-same z y c b (e ∙ q), nearer p a b c g h))
    (λ n. omega (arith, common_other z x c a n)) (eq_or z x)

-- the same with c before a
nearer_above : (p : ℕ) (a b c : Bytes) → precedes p c b ≡ true → precedes p b a ≡ true → common c a ≤ common c b
unfolding common precedes
nearer_above p [] [] c u v = omega arith
nearer_above p [] (y ∷ b) [] u v = absurd (omega (arith, ltb-true 256 (byte_key p y) u, ltb-true (byte_key p y) 256 v))
nearer_above p [] (y ∷ b) (z ∷ c) u v = omega arith
nearer_above p (x ∷ a) b [] u v = omega arith
nearer_above p (x ∷ a) [] (z ∷ c) u v = ⊎_elim
    (λ e. absurd (omega (arith, ltb-true (byte_key p z) 256 u, ltb-true 256 (byte_key p x) v, ap (byte_key p) e)))
    (λ n. omega (arith, common_other z x c a n)) (eq_or z x)
nearer_above p (x ∷ a) (y ∷ b) (z ∷ c) u v = ⊎_elim
    (λ e. let (q, g, h) = between p z y x c b a e u v in omega (arith, common-same z x c a e, common-same z y c b q, nearer_above p a b c g h))
    (λ n. omega (arith, common_other z x c a n)) (eq_or z x)

-- the most in common is an upper bound that is reached
longest_is : (c : Bytes) (ts : List Bytes) (m : ℕ) → ((k : ℕ) → k < length ts → common c (get_or ts k []) ≤ m)
    → ((m ≡ 0) ⊎ ((k : ℕ) × (k < length ts) × (common c (get_or ts k []) ≡ m))) → m ≡ longest c ts
longest_is c ts m up got = ⊎_elim (λ z. omega (arith, below)) (λ z. let (k, v, q) = z in omega (arith, below, longest_upper c ts k v)) got
  where
    below : longest c ts ≤ m
    below = ⊎_elim (λ u. let (l, v, q) = longest_reached c ts u in omega (arith, up l v)) (λ u. omega arith) (lt_or 0 (longest c ts))

-- ---- the places left

-- what c has in common with the last template before a place of the order
abbrev before : List Bytes → (ℕ → ℕ) → Bytes → ℕ → ℕ
before ts order c zero = 0
before ts order c (suc i) = common c (placed ts order i)

-- c goes to a place from low up to high: it has so much in common with the template before low and with that at high
pub record Narrowed (p : ℕ) (ts : List Bytes) (order : ℕ → ℕ) (c : Bytes) (low high below above : ℕ) : Type 0 where
  pub ascending : low ≤ high
  pub within : high ≤ length ts
  pub lower : (i : ℕ) → i < low → precedes p (placed ts order i) c ≡ true
  pub higher : (i : ℕ) → high ≤ i → i < length ts → precedes p c (placed ts order i) ≡ true
  pub below_is : below ≡ before ts order c low
  pub above_is : high < length ts → above ≡ common c (placed ts order high)
  pub above_none : length ts ≤ high → above ≡ 0

module _ {p : ℕ} {ts : List Bytes} {order : ℕ → ℕ} {c : Bytes} (so : InOrder p ts order) where
  -- at first it can be any place
  narrowed_none : (k : ℕ) → k ≡ length ts → Narrowed p ts order c 0 k 0 0
  narrowed_none k e = record {
    ascending = omega arith;
    within = omega arith;
    lower = λ i u. absurd (omega arith);
    higher = λ i u v. absurd (omega arith);
    below_is = refl;
    above_is = λ u. absurd (omega arith);
    above_none = λ u. refl;
  }

  module _ {low high below above : ℕ} (n : Narrowed p ts order c low high below above) where
    module _ (mid m : ℕ) (u : low ≤ mid) (v : mid < high) (q : m ≡ common c (placed ts order mid)) where
      -- the template at mid is c
      narrowed_same : length c < m → Finds p ts order c mid 0
      narrowed_same w = record {
        within = omega (arith, n.within);
        counted = counted ts c 0 (omega (arith, longest_upper c ts (order mid) (so.within mid (omega (arith, n.within)))));
        goes = λ z. absurd (omega arith);
      }

      -- c stands before it
      narrowed_low : precedes p c (placed ts order mid) ≡ true → Narrowed p ts order c low mid below m
      narrowed_low w = record {
        ascending = u;
        within = omega (arith, n.within);
        lower = n.lower;
        higher = λ i a b. ⊎_elim (λ e. rw (← e) w) (λ e. precedes_trans p c (placed ts order mid) (placed ts order i) w (so.ascending mid i e b)) (eq-or-lt_of_le {n = mid} {m = i} a);
        below_is = n.below_is;
        above_is = λ a. q;
        above_none = λ a. absurd (omega (arith, n.within));
      }

      -- it stands before c
      narrowed_high : precedes p (placed ts order mid) c ≡ true → Narrowed p ts order c (mid + 1) high m above
      narrowed_high w = record {
        ascending = omega arith;
        within = n.within;
        lower = λ i a. ⊎_elim (λ e. rw e w)
            (λ e. precedes_trans p (placed ts order i) (placed ts order mid) c (so.ascending i mid e (omega (arith, n.within))) w) (eq-or-lt_of_le {n = i} {m = mid} (omega arith));
        higher = n.higher;
        below_is = rw add-one q;
        above_is = n.above_is;
        above_none = n.above_none;
      }

    -- no place is left: the neighbours of c are found
    module _ (u : high ≤ low) where
      -- of the templates before c the last has the most in common with it
      below_most : (l i : ℕ) → i < l → l ≤ low → common c (placed ts order i) ≤ before ts order c l
      below_most zero i a b = absurd (omega arith)
      below_most (suc l) i a b = ⊎_elim (λ e. rw e (omega arith))
          (λ e. nearer p (placed ts order i) (placed ts order l) c (so.ascending i l e (omega (arith, n.ascending, n.within))) (n.lower l (omega arith)))
          (eq-or-lt_of_le {n = i} {m = l} (omega arith))

      -- of those after it the first
      above_most : (i : ℕ) → high ≤ i → i < length ts → common c (placed ts order i) ≤ above
      above_most i a b =
          let e = n.above_is (omega arith) in
          ⊎_elim (λ z. rw (← z) (omega arith))
          (λ z. omega (arith, nearer_above p (placed ts order i) (placed ts order high) c (n.higher high (omega arith) (omega arith)) (so.ascending high i z b)))
          (eq-or-lt_of_le {n = high} {m = i} a)

      -- so none has more than one of the two
      most : (k : ℕ) → k < length ts → common c (get_or ts k []) ≤ max below above
      most k v =
          let (i, a, e) = so.every k v in
          let h : common c (placed ts order i) ≤ max below above =
          ⊎_elim (λ z. omega (arith, n.below_is, below_most low i z (omega arith))) (λ z. omega (arith, above_most i (omega arith) a)) (lt_or i low) in
          rw e at h

      -- and what these have is reached
      below_reached : (l : ℕ) → l ≤ length ts → (before ts order c l ≡ 0) ⊎ ((k : ℕ) × (k < length ts) × (common c (get_or ts k []) ≡ before ts order c l))
      below_reached zero a = inl refl
      below_reached (suc l) a = inr (order l, so.within l (omega arith), refl)

      above_reached : (above ≡ 0) ⊎ ((k : ℕ) × (k < length ts) × (common c (get_or ts k []) ≡ above))
      above_reached = ⊎_elim (λ z. inr (order high, so.within high z, sym (n.above_is z))) (λ z. inl (n.above_none z)) (lt_or high (length ts))

      reached : (max below above ≡ 0) ⊎ ((k : ℕ) × (k < length ts) × (common c (get_or ts k []) ≡ max below above))
      reached = ⊎_elim
          (λ z. ⊎_elim (λ y. inl (omega arith)) (λ y. inr (y.0, y.1, omega (arith, y.2))) above_reached)
          (λ z. ⊎_elim (λ y. inl (omega (arith, n.below_is))) (λ y. inr (y.0, y.1, omega (arith, y.2, n.below_is)))
          (below_reached low (omega (arith, n.ascending, n.within)))) (lt_or below above)

      -- a neighbour has the most in common with c of all
      neighbours_most : max below above ≡ longest c ts
      neighbours_most = longest_is c ts (max below above) most reached

      -- the rest of its beginnings are new
      narrowed_done : (new : ℕ) → new ≡ suc (length c) - max below above → Finds p ts order c low new
      narrowed_done new e = record {
        within = omega (arith, n.ascending, n.within);
        counted = counted ts c new (omega (arith, neighbours_most));
        goes = λ z. record { low = n.lower; high = λ i a. n.higher i (omega arith) };
      }

-- ---- the loop

-- the template c goes to a place from low up to high of the order of k templates, and is neither of its neighbours there
pub record Seeking (p : ℕ) (ts : List Bytes) (order : ℕ → ℕ) (c : Bytes) (k low high below above : ℕ) : Type 0 where
  pub few : high ≤ k
  pub narrowed : Narrowed p ts order c low high below above
  pub other : max below above ≤ length c

module _ {p : ℕ} {ts : List Bytes} {order : ℕ → ℕ} {c : Bytes} {k : ℕ} (so : InOrder p ts order) where
  -- at first it can be any place
  pub seek_all : k ≡ length ts → Seeking p ts order c k 0 k 0 0
  seek_all e = record { few = omega arith; narrowed = narrowed_none so k e; other = omega arith }

  module _ {low high below above : ℕ} (n : Seeking p ts order c k low high below above) where
    -- the template in the middle has so much in common with the new one
    module _ (u : low < high) {m : ℕ} {d : Bytes} (a : d ≡ placed ts order ((low + high) / 2)) (e : m ≡ common c d) where
      middle_common : m ≡ common c (placed ts order ((low + high) / 2))
      middle_common = e ∙ ap (common c) a

      -- it is the same template
      pub seek_same : length c < m → Counted ts c 0
      seek_same v = (narrowed_same so n.narrowed ((low + high) / 2) m (omega arith) (omega arith) middle_common v).counted

      module _ (v : m ≤ length c) {r : Bool} (h : Compared p c d m r) where
        -- the new one stands before it
        pub seek_low : r ≡ true → Seeking p ts order c k low ((low + high) / 2) below m
        seek_low z = record {
          few = omega (arith, n.few);
          narrowed = narrowed_low so n.narrowed ((low + high) / 2) m (omega arith) (omega arith) middle_common (rw a at (h.less z (sym e) v));
          other = omega (arith, n.other);
        }

        -- or after it
        pub seek_high : r ≡ false → Seeking p ts order c k ((low + high) / 2 + 1) high m above
        seek_high z = record {
          few = n.few;
          narrowed = narrowed_high so n.narrowed ((low + high) / 2) m (omega arith) (omega arith) middle_common (rw a at (h.more z (sym e) v));
          other = omega (arith, n.other);
        }

    -- the place is found
    pub sought : high ≤ low → (new : ℕ) → new ≡ length c + 1 - max below above → (0 < new) × Finds p ts order c low new
    sought u new e = (omega (arith, n.other), narrowed_done so n.narrowed u new (omega arith))
