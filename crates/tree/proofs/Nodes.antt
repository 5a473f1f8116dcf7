-- The laws of a tree that is being built: how it grows.
use mathlib.Core.Path.{◌≡◌, refl, sym, ◌∙◌, ap}
use mathlib.Core.Logic.{◌⊎◌, inl, inr, ⊎_elim}
use Prim.Native.Nat.{ℕ, zero, suc, ◌+◌, ◌-◌, ◌≤◌, ◌<◌}
use native.Mathlib.Omega.{arith}
use native.Mathlib.Nat.{eq-or-lt_of_le}
use lib.Dec.{eqb}
use Rattle.templates.specs.Keys.{Share, one, cnt, holed}
use Rattle.tree.specs.Nodes.{Columns, Lesser, IsNode, Run, Done, Half}
use Rattle.templates.proofs.Keys.{lt_or, share_trans, cnt-more, cnt-same}
use Rattle.macros.proofs.Entries.{one_more}

-- the least key from low on that follows the first d elements of t in a template below n, and the first that has it; 258 where
-- there is none
pub record Next (f : ℕ → ℕ → ℕ) (n t d low key who : ℕ) : Type 0 where
  pub most : key ≤ 258
  pub there : key < 258 → (who < n) × Share f who t d × (f who d ≡ key) × (low ≤ key)
  pub first : key < 258 → (m : ℕ) → m < who → Share f m t d → f m d ≡ key → ⊥
  pub least : (k : ℕ) → k < n → Share f k t d → low ≤ f k d → key ≤ f k d

module _ (f : ℕ → ℕ → ℕ) (len : ℕ → ℕ) (n : ℕ) where
  -- what a node's children need of it
  pub record Stem (t h e o : ℕ) : Type 0 where
    pub high : h ≤ 201
    pub first : (m : ℕ) → m < t → Share f m t (201 - h) → ⊥
    pub placed : o ≡ cnt (holed f t) (201 - h)
    pub open_end : (e ≡ 256 → ⊥) → (x : ℕ) → x + 1 ≡ 201 - h → f t x ≡ 256 → ⊥

  node_stem : (t h e o : ℕ) → IsNode f len n t h e o → Stem t h e o
  node_stem t h e o x = record {
    high = omega (arith, x.deep);
    first = x.first;
    placed = x.placed;
    open_end = λ ne y z q. ne (x.element ∙ ap (f t) (omega (arith, x.deep)) ∙ q);
  }

  root_stem : Stem 0 201 258 0
  unfolding cnt
  root_stem = record { high = omega arith; first = λ m u. absurd (omega arith); placed = refl; open_end = λ ne x z. absurd (omega arith) }

  pub stem : (N : Columns) (i c F low : ℕ) → Half f len n N i c F low → (j : ℕ) → j < c → Stem (N.template j) (N.height j) (N.element j) (N.holes j)
  stem N i c F low h zero u = let r = h.root in rw (r.0, r.1, r.2, r.3) root_stem
  stem N i c F low h (suc j) u = node_stem _ _ _ _ (h.node (suc j) (omega arith) u)

  -- what is told of nodes is told of others that have the same
  pub run_none : (N : Columns) (t h c : ℕ) → Run f len n N t h c c 0
  run_none N t h c = record { kid = λ j lo v. absurd (omega arith); asc = λ j m lo lt v. absurd (omega arith); full = λ k kn s lt. absurd (omega arith) }

  run-same : (N N' : Columns) (t h F c low : ℕ) → ((j : ℕ) → j < c → N'.template j ≡ N.template j) → ((j : ℕ) → j < c → N'.height j ≡ N.height j) → Run f len n N t h F c low
      → Run f len n N' t h F c low
  run-same N N' t h F c low a b r = record {
    kid = λ j lo u. rw (a j u, b j u) (r.kid j lo u);
    asc = λ i j lo lt u. rw (a i (omega arith), a j u) (r.asc i j lo lt u);
    full = λ k kn s lt. let (j, lo, u, e) = r.full k kn s lt in (j, lo, u, ap (λ (m : ℕ). f m (201 - h)) (a j u) ∙ e);
  }

  -- c nodes have the same, and those below i the same children
  pub record Agree (N N' : Columns) (i c : ℕ) : Type 0 where
    pub template : (j : ℕ) → j < c → N'.template j ≡ N.template j
    pub height : (j : ℕ) → j < c → N'.height j ≡ N.height j
    pub element : (j : ℕ) → j < c → N'.element j ≡ N.element j
    pub holes : (j : ℕ) → j < c → N'.holes j ≡ N.holes j
    pub first : (j : ℕ) → j < i → N'.first j ≡ N.first j
    pub number : (j : ℕ) → j < i → N'.number j ≡ N.number j

  module _ (N N' : Columns) (i c : ℕ) (g : Agree N N' i c) where
    run_carry : (p F e low : ℕ) → p < c → e ≤ c → Run f len n N (N.template p) (N.height p) F e low → Run f len n N' (N'.template p) (N'.height p) F e low
    run_carry p F e low u v r = rw (g.template p u, g.height p u) (run-same N N' (N.template p) (N.height p) F e low (λ j w. g.template j (omega arith)) (λ j w. g.height j (omega arith)) r)

    done_carry : (p : ℕ) → p < i → i ≤ c → Done f len n N p c → Done f len n N' p c
    done_carry p u v d = record {
      in_row = rw (g.first p u, g.number p u) d.in_row;
      after = rw (g.first p u) d.after;
      none = λ z. g.number p u ∙ d.none (sym (g.element p (omega arith)) ∙ z);
      run = λ z. rw (g.first p u, g.number p u) (run_carry p (N.first p) (N.first p + N.number p) 258 (omega arith) d.in_row (d.run (λ y. z (g.element p (omega arith) ∙ y))));
    }

    carry_with : (F low : ℕ) → Half f len n N i c F low → Run f len n N' (N'.template i) (N'.height i) F c low → Half f len n N' i c F low
    carry_with F low h r = record {
      begun = h.begun;
      some_node = h.some_node;
      root = let z = h.some_node in let q = h.root in (g.template 0 z ∙ q.0, g.height 0 z ∙ q.1, g.element 0 z ∙ q.2, g.holes 0 z ∙ q.3);
      node = λ j z v. rw (g.template j v, g.height j v, g.element j v, g.holes j v) (h.node j z v);
      done = λ p v. done_carry p v h.begun (h.done p v);
      parent = λ j z v. ⊎_elim (λ w. let (p, q, lo, hi) = w in inl (p, q, rw (g.first p q) lo, rw (g.first p q, g.number p q) hi)) (λ w. inr w) (h.parent j z v);
      distinct = λ j l v w x y. h.distinct j l v w (sym (g.template j (omega arith)) ∙ x ∙ g.template l w) (sym (g.height j (omega arith)) ∙ y ∙ g.height l w);
      from = h.from;
      run = r;
    }

    pub carry : (F low : ℕ) → i < c → Half f len n N i c F low → Half f len n N' i c F low
    carry F low u h = carry_with F low h (run_carry i F c low u (omega arith) h.run)

  -- where all nodes have their children
  pub carry_all : (N N' : Columns) (c : ℕ) → Agree N N' c c → Half f len n N c c c 0 → Half f len n N' c c c 0
  carry_all N N' c g h = carry_with N N' c c g c 0 h (run_none N' (N'.template c) (N'.height c) c)

  -- a node's template is long enough for the children that are found
  pub reach : ((k x : ℕ) → len k ≤ x → f k x ≡ 256) → (t h e o low key who : ℕ) → Stem t h e o → (e ≡ 256 → ⊥) → Next f n t (201 - h) low key who → key < 258 → 201 - h ≤ len who
  reach ended t h e o low key who s ne l kb =
      let d = 201 - h in
      let w = l.there kb in
      ⊎_elim (λ u. absurd (s.open_end ne (d - 1) (omega arith) (sym (w.1 (d - 1) (omega arith)) ∙ ended who (d - 1) (omega arith)))) (λ u. u) (lt_or (len who) d)

  -- the node of a key that was found
  new_node : ((k x : ℕ) → len k ≤ x → f k x ≡ 256) → (t h e o h' low key who : ℕ) → Stem t h e o → (e ≡ 256 → ⊥) → Next f n t (201 - h) low key who → key < 258 → h' + 1 ≡ h
      → IsNode f len n who h' key (o + one (eqb key 257))
  new_node ended t h e o h' low key who s ne l kb z =
      let d = 201 - h in
      let y : 200 - h' ≡ d = omega arith in
      let g : 201 - h' ≡ d + 1 = omega (arith, s.high) in
      let w = l.there kb in
      record {
        known = w.0;
        deep = omega (arith, s.high);
        element = sym w.2 ∙ ap (f who) (sym y);
        first = λ m u sh. l.first kb m u (share_trans f m who t d (λ x v. sh x (omega arith)) w.1) (sh d (omega arith) ∙ w.2);
        live = omega (arith, reach ended t h e o low key who s ne l kb);
        placed = ap (λ (m : ℕ). m + one (eqb key 257)) (s.placed ∙ sym (cnt-same (holed f who) (holed f t) d (λ x u. ap (λ (m : ℕ). eqb m 257) (w.1 x u))))
            ∙ ap (λ (m : ℕ). cnt (holed f who) d + one (eqb m 257)) (sym w.2) ∙ sym (cnt-more (holed f who) d) ∙ ap (cnt (holed f who)) (sym g);
      }

  module _ (N : Columns) (i c F low : ℕ) (half : Half f len n N i c F low) (u : i < c) where
    -- two nodes of one height that share their beginnings are one
    one_node : (p : ℕ) → p < i → N.height p ≡ N.height i → Share f (N.template p) (N.template i) (201 - N.height i) → ⊥
    one_node p v e s =
        let a = stem N i c F low half i u in
        let b = stem N i c F low half p (omega arith) in
        ⊎_elim (λ x. a.first (N.template p) x s)
        (λ x. ⊎_elim (λ y. b.first (N.template i) y (λ z w. sym (s z (rw e at w)))) (λ y. half.distinct p i v u (omega arith) e) (lt_or (N.template i) (N.template p)))
        (lt_or (N.template p) (N.template i))

    -- the node that is found is not yet there
    not_there : (key who : ℕ) → Next f n (N.template i) (201 - N.height i) low key who → key < 258 → (j : ℕ) → j < c → N.template j ≡ who → N.height j + 1 ≡ N.height i → ⊥
    not_there key who l kb zero v e g = omega (arith, g, half.root.1, (stem N i c F low half i u).high)
    not_there key who l kb (suc j) v e g = ⊎_elim by_parent by-run (half.parent (suc j) (omega arith) v)
      where
        w : (who < n) × Share f who (N.template i) (201 - N.height i) × (f who (201 - N.height i) ≡ key) × (low ≤ key)
        w = l.there kb

        by-run : F ≤ suc j → ⊥
        by-run q = omega (arith, (half.run.kid (suc j) q v).2, ap (λ (m : ℕ). f m (201 - N.height i)) e, w.2, w.3)

        by_parent : ((p : ℕ) × (p < i) × (N.first p ≤ suc j) × (suc j < N.first p + N.number p)) → ⊥
        by_parent (p, q, lo, hi) =
            let d = half.done p q in
            let k = (d.run (λ z. omega (arith, d.none z))).kid (suc j) lo hi in
            let x : N.height p ≡ N.height i = omega (arith, k.1) in
            one_node p q x (λ y z. sym (k.0 y (rw (← x) at z)) ∙ ap (λ (m : ℕ). f m y) e ∙ w.1 y z)

    -- one node more
    pub append : (ended : (k x : ℕ) → len k ≤ x → f k x ≡ 256) (key who : ℕ) → (N.element i ≡ 256 → ⊥) → Next f n (N.template i) (201 - N.height i) low key who → key < 258
        → N.template c ≡ who → N.height c + 1 ≡ N.height i → N.element c ≡ key → N.holes c ≡ N.holes i + one (eqb key 257) → Half f len n N i (c + 1) F (key + 1)
    append ended key who ne l kb et eh ee eo =
        let d = 201 - N.height i in
        let w = l.there kb in
        let x : f (N.template c) d ≡ key = ap (λ (m : ℕ). f m d) et ∙ w.2 in
        record {
          begun = omega arith;
          some_node = omega arith;
          root = half.root;
          node = λ j z v. one_more c (λ j. 0 < j → IsNode f len n (N.template j) (N.height j) (N.element j) (N.holes j))
              (λ j v z. half.node j z v) (λ z. rw (et, ee, eo) (new_node ended (N.template i) (N.height i) (N.element i) (N.holes i) (N.height c) low key who (stem N i c F low half i u) ne l kb eh)) j v z;
          done = λ p v. let q = half.done p v in record { in_row = omega (arith, q.in_row); after = q.after; none = q.none; run = q.run };
          parent = λ j z v. one_more c (λ j. 0 < j → ((p : ℕ) × (p < i) × (N.first p ≤ j) × (j < N.first p + N.number p)) ⊎ (F ≤ j)) (λ j v z. half.parent j z v) (λ z. inr half.from) j v z;
          distinct = λ j m lt v. one_more c (λ m. j < m → N.template j ≡ N.template m → N.height j ≡ N.height m → ⊥)
              (λ m a b. half.distinct j m b a) (λ b p q. not_there key who l kb j b (p ∙ et) (omega arith)) m v lt;
          from = omega (arith, half.from);
          run = record {
            kid = λ j lo v. one_more c (λ j. F ≤ j → Share f (N.template j) (N.template i) d × (N.height j + 1 ≡ N.height i) × (f (N.template j) d < key + 1))
                (λ j v lo. let q = half.run.kid j lo v in (q.0, q.1, omega (arith, q.2, w.3))) (λ lo. (rw et w.1, eh, omega arith)) j v lo;
            asc = λ j m lo lt v. one_more c (λ m. j < m → Lesser f N d j m) (λ m v lt. half.run.asc j m lo lt v) (λ lt. omega (arith, (half.run.kid j lo lt).2, w.3)) m v lt;
            full = λ k kn s lt. ⊎_elim (λ a. let (j, b, e, g) = half.run.full k kn s a in (j, b, omega arith, g)) (λ a. (c, half.from, omega arith, omega (arith, x, l.least k kn s a))) (lt_or (f k d) low);
          };
        }

    -- no key is left
    pub seal : (who : ℕ) → low ≤ 258 → Next f n (N.template i) (201 - N.height i) low 258 who → Half f len n N i c F 258
    seal who le l = record {
      begun = half.begun;
      some_node = half.some_node;
      root = half.root;
      node = half.node;
      done = half.done;
      parent = half.parent;
      distinct = half.distinct;
      from = half.from;
      run = record {
        kid = λ j lo v. let q = half.run.kid j lo v in (q.0, q.1, omega (arith, q.2));
        asc = half.run.asc;
        full = λ k kn s lt. ⊎_elim (λ a. half.run.full k kn s a) (λ a. absurd (omega (arith, l.least k kn s a))) (lt_or (f k (201 - N.height i)) low);
      };
    }

    -- the node has its children
    pub close : i < F → (N.element i ≡ 256 → F ≡ c) → ((N.element i ≡ 256 → ⊥) → low ≡ 258) → N.first i ≡ F → N.number i ≡ c - F → Half f len n N (i + 1) c c 0
    close af sole all fi nu =
        let z : F + (c - F) ≡ c = omega (arith, half.from) in
        let y : N.first i + N.number i ≡ c = omega (arith, half.from) in
        record {
          begun = omega arith;
          some_node = half.some_node;
          root = half.root;
          node = half.node;
          done = λ p v. ⊎_elim (λ q. rw q (record { in_row = omega arith; after = omega arith; none = λ e. omega (arith, sole e); run = λ ne. rw (y, fi, ← all ne) half.run }))
              (λ q. half.done p q) (eq-or-lt_of_le {n = p} {m = i} (omega arith));
          parent = λ j a v. inl (⊎_elim (λ w. (w.0, omega (arith, w.1), w.2, w.3)) (λ w. (i, omega arith, omega arith, omega arith)) (half.parent j a v));
          distinct = half.distinct;
          from = omega arith;
          run = run_none N (N.template (i + 1)) (N.height (i + 1)) c;
        }
