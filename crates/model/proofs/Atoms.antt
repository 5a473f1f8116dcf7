-- Atoms by their first byte, and against balanced rows: an atom in front of a balanced row makes one, and a balanced row that isn't empty
-- starts with an atom. The laws: group_left, group_other, group_right, group_last, atom_right, atom_other, atom_left, atom_sound, atom_complete.
use mathlib.Core.Path.{◌≡◌, refl, sym, ◌∙◌, ap, ap₂}
use mathlib.Core.Bool.{Bool, true, false, ◌&&◌}
use mathlib.Core.List.{[], ◌∷◌, ◌++◌, append_assoc}
use mathlib.Core.Logic.{◌⊎◌, inl, inr}
use mathlib.Core.Option.{Option, none, some}
use Prim.Native.Nat.{ℕ, zero, suc, ◌-◌, ◌<◌}
use native.Mathlib.Omega.{arith}
use lib.Dec.{eqb, eqb-suc-zero}
use lib.ListN.{length}
use borrow.Author.Tests.{eq-eqb, ne_eqb}
use Rattle.model.specs.declared.Marks.{Marks}
use Rattle.model.specs.Text.{Bytes}
use Rattle.model.specs.Reading.{group, atom}
use Rattle.model.specs.Fitting.{Balanced, empty, byte-then, group_then}
use Rattle.model.proofs.Chosen.{Tested, alike, apart, tested}

-- the bytes p in front of what is found
abbrev pub after : Bytes → Option (Bytes × Bytes) → Option (Bytes × Bytes)
after p o = elim o [ none ↦ none | some r ↦ some (p ++ r.0, r.1) ]

-- what was passed goes in front at once or in two steps
pub after-after : (p q : Bytes) (o : Option (Bytes × Bytes)) → after p (after q o) ≡ after (p ++ q) o
after-after p q none = refl
after-after p q (some r) = ap (λ (l : Bytes). some (l, r.1)) (sym (append_assoc p q r.0))

module _ (m : Marks) where
  -- ---- a group, by its first byte

  -- with what the tests say: is b a left bracket, is it a right one, is no bracket open inside
  abbrev tests : ℕ → ℕ → Bytes → Bool → Bool → Bool → Option (Bytes × Bytes)
  tests d b s l r z =
      let d' : ℕ = elim l as (λ b. ℕ) [ true ↦ suc d | false ↦ elim r as (λ b. ℕ) [ true ↦ d - 1 | false ↦ d ] ] in
      elim (r && z) [ true ↦ some (b ∷ [], s) | false ↦ after (b ∷ []) (group m d' s) ]

  -- a group goes by these tests
  by_tests : (d b : ℕ) (s : Bytes) (l r z : Bool) → eqb b m.left ≡ l → eqb b m.right ≡ r → eqb d 0 ≡ z → group m d (b ∷ s) ≡ tests d b s l r z
  unfolding group
  by_tests d b s l r z e f g = ap₂ (λ (x y : Bool). tests d b s x y (eqb d 0)) e f ∙ ap (tests d b s l r) g

  -- a left bracket opens one more
  pub group_left : (d b : ℕ) (s : Bytes) → b ≡ m.left → ¬ (b ≡ m.right) → group m d (b ∷ s) ≡ after (b ∷ []) (group m (suc d) s)
  group_left d b s l r = by_tests d b s true false (eqb d 0) (eq-eqb b m.left l) (ne_eqb b m.right r) refl

  -- a byte that is no bracket leaves the count
  pub group_other : (d b : ℕ) (s : Bytes) → ¬ (b ≡ m.left) → ¬ (b ≡ m.right) → group m d (b ∷ s) ≡ after (b ∷ []) (group m d s)
  group_other d b s l r = by_tests d b s false false (eqb d 0) (ne_eqb b m.left l) (ne_eqb b m.right r) refl

  -- a right bracket closes one
  pub group_right : (d b : ℕ) (s : Bytes) → ¬ (b ≡ m.left) → b ≡ m.right → group m (suc d) (b ∷ s) ≡ after (b ∷ []) (group m d s)
  group_right d b s l r =
      let z : suc d - 1 ≡ d = omega arith in
      by_tests (suc d) b s false true false (ne_eqb b m.left l) (eq-eqb b m.right r) (eqb-suc-zero d) ∙ ap (λ (k : ℕ). after (b ∷ []) (group m k s)) z

  -- or the group itself
  pub group_last : (b : ℕ) (s : Bytes) → b ≡ m.right → group m 0 (b ∷ s) ≡ some (b ∷ [], s)
  group_last b s r = by_tests 0 b s (eqb b m.left) true true refl (eq-eqb b m.right r) refl

  -- ---- an atom, by its first byte

  -- a right bracket is no atom
  pub atom_right : (b : ℕ) (s : Bytes) → b ≡ m.right → atom m (b ∷ s) ≡ none
  unfolding atom
  atom_right b s r = rw (eq-eqb b m.right r, atom) refl

  -- a byte that is no bracket is one
  pub atom_other : (b : ℕ) (s : Bytes) → ¬ (b ≡ m.left) → ¬ (b ≡ m.right) → atom m (b ∷ s) ≡ some (b ∷ [], s)
  unfolding atom
  atom_other b s l r = rw (ne_eqb b m.right r, ne_eqb b m.left l, atom) refl

  -- a left bracket starts one
  pub atom_left : (b : ℕ) (s : Bytes) → b ≡ m.left → ¬ (b ≡ m.right) → atom m (b ∷ s) ≡ after (b ∷ []) (group m 0 s)
  unfolding atom
  atom_left b s l r = rw (ne_eqb b m.right r, eq-eqb b m.left l, atom) refl

-- ---- against balanced rows

-- nothing is not something
pub none-some : {A B : Type 0} {a : A} → ◌≡◌ {A = Option A} none (some a) → B
none-some e = let z : ◌≡◌ {A = ℕ} 0 1 = cc in absurd (omega arith)

-- two finds that are equal have equal parts
found-same : (a t b u : Bytes) → ◌≡◌ {A = Option (Bytes × Bytes)} (some (a, t)) (some (b, u)) → (a ≡ b) × (t ≡ u)
found-same a t b u e =
    let w : ◌≡◌ {A = Bytes × Bytes} (a, t) (b, u) = cc in
    (ap (λ (x : Bytes × Bytes). x.0) w, ap (λ (x : Bytes × Bytes). x.1) w)

-- what was found past p
after_inv : (p : Bytes) (o : Option (Bytes × Bytes)) (a t : Bytes) → after p o ≡ some (a, t) → (q : Bytes) × (o ≡ some (q, t)) × (a ≡ p ++ q)
after_inv p none a t e = none-some e
after_inv p (some (q, u)) a t e =
    let (x, y) = found-same (p ++ q) u a t e in
    (q, rw y refl, sym x)

-- balanced rows, each with the right bracket that ends it: one more than d
data Closed (m : Marks) : ℕ → Bytes → Type 0 where
  last : (p : Bytes) → Balanced m p → Closed m zero (p ++ m.right ∷ [])
  more : (d : ℕ) (p a : Bytes) → Balanced m p → Closed m d a → Closed m (suc d) (p ++ m.right ∷ a)

-- an atom a of the line s, with t left past it
pub record Atom (m : Marks) (s a t : Bytes) : Type 0 where
  pub joined : s ≡ a ++ t
  pub some_byte : 0 < length a
  pub then_balanced : (q : Bytes) → Balanced m q → Balanced m (a ++ q)

-- a balanced row that starts with an atom, and is balanced past it
pub record Headed (m : Marks) (p : Bytes) : Type 0 where
  pub head : Bytes
  pub tail : Bytes
  pub joined : p ≡ head ++ tail
  pub some_byte : 0 < length head
  pub balanced : Balanced m tail
  pub is-atom : (u : Bytes) → atom m (p ++ u) ≡ some (head, tail ++ u)

module _ (m : Marks) where
  -- a byte that is no bracket may stand in front
  closed_byte : (d b : ℕ) (a : Bytes) → ¬ (b ≡ m.left) → ¬ (b ≡ m.right) → Closed m d a → Closed m d (b ∷ a)
  closed_byte d b a l r (last p h) = last (b ∷ p) (byte-then b p l r h)
  closed_byte d b a l r (more e p u h k) = more e (b ∷ p) u (byte-then b p l r h) k

  -- a left bracket in front joins the first two rows into one
  closed_left : (d b : ℕ) (a : Bytes) → b ≡ m.left → Closed m (suc d) a → Closed m d (b ∷ a)
  closed_left d b a l (more _ p u h (last q k)) = rw (l, ← append_assoc p (m.right ∷ q) (m.right ∷ [])) (last (m.left ∷ p ++ m.right ∷ q) (group_then p q h k))
  closed_left d b a l (more _ p u h (more e q v k r)) =
      rw (l, ← append_assoc p (m.right ∷ q) (m.right ∷ v)) (more e (m.left ∷ p ++ m.right ∷ q) v (group_then p q h k) r)

  -- a right bracket in front ends an empty row
  closed_right : (d b : ℕ) (a : Bytes) → b ≡ m.right → Closed m d a → Closed m (suc d) (b ∷ a)
  closed_right d b a r h = rw r (more d [] a empty h)

  -- a group is balanced rows, each with the bracket that ends it
  group_sound : (s : Bytes) (d : ℕ) (a t : Bytes) → ¬ (m.left ≡ m.right) → group m d s ≡ some (a, t) → Closed m d a × (s ≡ a ++ t)
  unfolding group
  group_sound [] d a t n e = none-some e
  group_sound (b ∷ s) d a t n e = by (eqb b m.left) (eqb b m.right) (tested b m.left) (tested b m.right) d (λ k q h. group_sound s k q t n h) e
    where
      by : (l r : Bool) → Tested b m.left l → Tested b m.right r → (d : ℕ) → ((k : ℕ) (q : Bytes) → group m k s ≡ some (q, t) → Closed m k q × (s ≡ q ++ t))
          → group m d (b ∷ s) ≡ some (a, t) → Closed m d a × (b ∷ s ≡ a ++ t)
      by true r (alike l) x d ih h =
          let (q, g, z) = after_inv (b ∷ []) (group m (suc d) s) a t (sym (group_left m d b s l (λ e. n (sym l ∙ e))) ∙ h) in
          let o = ih (suc d) q g in
          rw z (closed_left d b q l o.0, ap (λ (w : Bytes). b ∷ w) o.1)
      by false true (apart l) (alike r) zero ih h =
          let (x, y) = found-same (b ∷ []) s a t (sym (group_last m b s r) ∙ h) in
          rw (← x, ← y, r) (last [] empty, refl)
      by false true (apart l) (alike r) (suc d) ih h =
          let (q, g, z) = after_inv (b ∷ []) (group m d s) a t (sym (group_right m d b s l r) ∙ h) in
          let o = ih d q g in
          rw z (closed_right d b q r o.0, ap (λ (w : Bytes). b ∷ w) o.1)
      by false false (apart l) (apart r) d ih h =
          let (q, g, z) = after_inv (b ∷ []) (group m d s) a t (sym (group_other m d b s l r) ∙ h) in
          let o = ih d q g in
          rw z (closed_byte d b q l r o.0, ap (λ (w : Bytes). b ∷ w) o.1)

  -- a group in front of a balanced row
  closed_then : (b : ℕ) (a : Bytes) → b ≡ m.left → Closed m 0 a → (q : Bytes) → Balanced m q → Balanced m (b ∷ a ++ q)
  closed_then b a l (last p h) q k = rw (l, append_assoc) (group_then p q h k)

  -- the atom that is found is one
  pub atom_sound : (s a t : Bytes) → atom m s ≡ some (a, t) → Atom m s a t
  unfolding atom
  atom_sound [] a t e = none-some e
  atom_sound (b ∷ s) a t e = by (eqb b m.left) (eqb b m.right) (tested b m.left) (tested b m.right) e
    where
      by : (l r : Bool) → Tested b m.left l → Tested b m.right r → atom m (b ∷ s) ≡ some (a, t) → Atom m (b ∷ s) a t
      by l true x (alike r) h = none-some (sym (atom_right m b s r) ∙ h)
      by true false (alike l) (apart r) h =
          let (q, g, z) = after_inv (b ∷ []) (group m 0 s) a t (sym (atom_left m b s l r) ∙ h) in
          let o = group_sound s 0 q t (λ e. r (l ∙ e)) g in
          rw z (record { joined = ap (λ (w : Bytes). b ∷ w) o.1; some_byte = omega arith; then_balanced = closed_then b q l o.0 })
      by false false (apart l) (apart r) h =
          let (x, y) = found-same (b ∷ []) s a t (sym (atom_other m b s l r) ∙ h) in
          rw (← x, ← y) (record { joined = refl; some_byte = omega arith; then_balanced = λ q k. byte-then b q l r k })

module _ (m : Marks) (differ : ¬ (m.left ≡ m.right)) where
  -- a balanced row closes nothing that was open before it
  group-balanced : (p : Bytes) → Balanced m p → (u : Bytes) (d : ℕ) → group m d (p ++ u) ≡ after p (group m d u)
  group-balanced p empty u d = sym (after_nil (group m d u))
    where
      after_nil : (o : Option (Bytes × Bytes)) → after [] o ≡ o
      after_nil none = refl
      after_nil (some r) = refl
  group-balanced p (byte-then b q l r h) u d =
      group_other m d b (q ++ u) l r ∙ ap (after (b ∷ [])) (group-balanced q h u d) ∙ after-after (b ∷ []) q (group m d u)
  group-balanced p (group_then q r h k) u d =
      group_left m d m.left ((q ++ m.right ∷ r) ++ u) refl differ
      ∙ ap (λ (w : Bytes). after (m.left ∷ []) (group m (suc d) w)) (append_assoc q (m.right ∷ r) u)
      ∙ ap (after (m.left ∷ [])) (group-balanced q h (m.right ∷ r ++ u) (suc d)
      ∙ ap (after q) (group_right m d m.right (r ++ u) (λ e. differ (sym e)) refl ∙ ap (after (m.right ∷ [])) (group-balanced r k u d)))
      ∙ joins (group m d u)
    where
      joins : (o : Option (Bytes × Bytes)) → after (m.left ∷ []) (after q (after (m.right ∷ []) (after r o))) ≡ after (m.left ∷ q ++ m.right ∷ r) o
      joins none = refl
      joins (some x) = ap (λ (w : Bytes). some (m.left ∷ w, x.1)) (sym (append_assoc q (m.right ∷ r) x.0))

  -- a balanced row is empty or starts with an atom
  pub atom_complete : (p : Bytes) → Balanced m p → (p ≡ []) ⊎ Headed m p
  atom_complete p empty = inl refl
  atom_complete p (byte-then b q l r h) =
      inr (record { head = b ∷ []; tail = q; joined = refl; some_byte = omega arith; balanced = h; is-atom = λ u. atom_other m b (q ++ u) l r })
  atom_complete p (group_then q r h k) = inr (record {
    head = m.left ∷ q ++ m.right ∷ [];
    tail = r;
    joined = rw append_assoc refl;
    some_byte = omega arith;
    balanced = k;
    is-atom = λ u.
        atom_left m m.left ((q ++ m.right ∷ r) ++ u) refl differ
        ∙ ap (λ (w : Bytes). after (m.left ∷ []) (group m 0 w)) (append_assoc q (m.right ∷ r) u)
        ∙ ap (after (m.left ∷ [])) (group-balanced q h (m.right ∷ r ++ u) 0 ∙ ap (after q) (group_last m m.right (r ++ u) refl));
  })
