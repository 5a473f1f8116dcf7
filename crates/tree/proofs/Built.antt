-- The nodes of a table are the tree of its templates' beginnings.
use mathlib.Core.Path.{◌≡◌, sym, ◌∙◌, ap, subst}
use mathlib.Core.List.{List, [], ◌∷◌, ◌++◌, map, append_assoc}
use mathlib.Core.Logic.{⊎_elim}
use Prim.Native.Nat.{ℕ, zero, suc, ◌+◌, ◌-◌, ◌≤◌, ◌<◌}
use native.Mathlib.Omega.{arith}
use lib.ListN.{length, get_or, take, length-map}
use lib.Seq.{length-take-le}
use Rattle.model.specs.declared.Marks.{Marks}
use Rattle.model.specs.Text.{Bytes}
use Rattle.model.specs.Parts.{Elem, stop, elems}
use Rattle.model.specs.Children.{element_of, Begins}
use Rattle.nodes.specs.declared.Node.{Node}
use Rattle.nodes.specs.Rows.{no_node, elem, template_of, height, holes, Child, Ascending}
use Rattle.nodes.specs.SideBySide.{Children, Says}
use Rattle.model.proofs.Children.{one_key}
use Rattle.nodes.proofs.Rows.{front_node}
use Rattle.templates.specs.Count.{known}
use Rattle.templates.specs.Keys.{keys, Share, cnt, holed}
use Rattle.templates.proofs.Keys.{lt_or, key_bound, key_ends, holes_most}
use Rattle.tree.specs.Nodes.{columns, Half, Made}
use Rattle.tree.specs.Built.{ReadyToBuild, Built, Builds, NodesMade}
use Rattle.tree.proofs.Known.{templates-known}
use Rattle.tree.proofs.Nodes.{Stem, Agree, stem, carry_all}
use Rattle.tree.proofs.Room.{bound}
use Rattle.tree.proofs.Elements.{begin, begin-at, begin_zero, begin_suc, begin_more, begin_length, begin_share, begin_on, begin_holes, whole, map_at}
use Rattle.tree.proofs.Exact.{at-end, goes_on, at_least}

module _ (f : ℕ → ℕ → ℕ) (len : ℕ → ℕ) (n : ℕ) (rows : List Node) (half : Half f len n (columns rows) (length rows) (length rows) (length rows) 0) where
  -- what is known of a child
  record Kid (i j : ℕ) : Type 0 where
    pub after : i < j
    pub in_row : j < length rows
    pub open_parent : elem rows i ≡ 256 → ⊥
    pub shared : Share f (template_of rows j) (template_of rows i) (201 - height rows i)
    pub below : height rows j + 1 ≡ height rows i
    pub deep : height rows i ≤ 201
    pub element : elem rows j ≡ f (template_of rows j) (201 - height rows i)

  -- it follows from the tree's growth
  kid_of : (i j : ℕ) → i < length rows → Child rows i j → Kid i j
  kid_of i j u ch =
      let d = half.done i u in
      let ne : elem rows i ≡ 256 → ⊥ = λ z. omega (arith, ch.0, ch.1, d.none z) in
      let v : j < length rows = omega (arith, ch.1, d.in_row) in
      let k = (d.run ne).kid j ch.0 ch.1 in
      let x = half.node j (omega (arith, d.after, ch.0)) v in
      let z : 200 - height rows j ≡ 201 - height rows i = omega (arith, k.1) in
      record {
        after = omega (arith, d.after, ch.0);
        in_row = v;
        open_parent = ne;
        shared = k.0;
        below = k.1;
        deep = omega (arith, k.1, x.deep);
        element = x.element ∙ ap (f (template_of rows j)) z;
      }

  -- the children of a node ascend by their keys
  ascends : (i : ℕ) → i < length rows → Ascending rows i
  ascends i u j l a b v =
      let k = kid_of i j u a in
      rw (k.element, (kid_of i l u b).element) (((half.done i u).run k.open_parent).asc j l a.0 v b.1)

  -- the beginning of a node
  pub pre : ℕ → List Elem
  pre i = begin f (template_of rows i) (201 - height rows i)

  -- the root's is empty
  pub root_empty : pre 0 ≡ []
  unfolding pre
  root_empty = rw half.root.1 (begin_zero f (template_of rows 0))

  -- each node but the root is a child
  pub has_parent : (j : ℕ) → 0 < j → j < length rows → (i : ℕ) × (i < j) × Child rows i j
  has_parent j z u = ⊎_elim (λ w. let ch : Child rows w.0 j = (w.2, w.3) in (w.0, (kid_of w.0 j w.1 ch).after, ch)) (λ w. absurd (omega arith)) (half.parent j z u)

  -- no two nodes have one beginning
  pub all_distinct : (i j : ℕ) → i < j → j < length rows → pre i ≡ pre j → ⊥
  unfolding pre
  all_distinct i j u v e =
      let si = stem f len n (columns rows) (length rows) (length rows) (length rows) 0 half i (omega arith) in
      let sj = stem f len n (columns rows) (length rows) (length rows) (length rows) 0 half j v in
      let d : 201 - height rows i ≡ 201 - height rows j = sym (begin_length f (template_of rows i) (201 - height rows i)) ∙ ap length e ∙ begin_length f (template_of rows j) (201 - height rows j) in
      let h : height rows i ≡ height rows j = omega (arith, d, si.high, sj.high) in
      let s : (x : ℕ) → x < 201 - height rows i → f (template_of rows i) x ≡ f (template_of rows j) x =
      λ x w. one_key _ _ (sym (begin-at f (template_of rows i) (201 - height rows i) x w) ∙ ap (λ (l : List Elem). get_or l x stop) e
      ∙ begin-at f (template_of rows j) (201 - height rows j) x (omega (arith, d))) in
      ⊎_elim (λ a. sj.first (template_of rows i) a (λ x w. s x (omega (arith, d))))
      (λ a. ⊎_elim (λ b. si.first (template_of rows j) b (λ x w. sym (s x w))) (λ b. half.distinct i j u v (omega arith) h) (lt_or (template_of rows j) (template_of rows i)))
      (lt_or (template_of rows i) (template_of rows j))

  module _ (bounded : (k x : ℕ) → f k x < 258) (ends : (k x : ℕ) → f k x ≡ 256 → len k ≤ x)
      (ts : List (List Elem)) (size : length ts ≡ n) (at : (k : ℕ) → k < n → get_or ts k [] ≡ begin f k (suc (len k))) where
    -- each node but the root has a beginning of the templates
    used : (j : ℕ) → 0 < j → j < length rows → Begins ts (pre j)
    unfolding pre
    used j z u =
        let x = half.node j z u in
        let k = template_of rows j in
        let d = 201 - height rows j in
        let more : ℕ = suc (len k) - d in
        let g : suc (len k) ≡ more + d = omega (arith, x.deep, x.live) in
        let (es, e) = begin_more f k d more in
        (es, (k, omega (arith, size, x.known), at k x.known ∙ ap (begin f k) g ∙ e))

    -- the children of a node are those of the beginnings that are longer by one element
    pub has_children : (i : ℕ) → i < length rows → Children rows ts pre i
    unfolding pre
    has_children i u = record {
      in_row = (half.done i u).in_row;
      after = λ j ch. (kid_of i j u ch).after;
      ascending = ascends i u;
      greatest = λ j ch. omega (arith, (kid_of i j u ch).element, bounded (template_of rows j) (201 - height rows i));
      each = λ j ch.
          let k = kid_of i j u ch in
          let d = 201 - height rows i in
          let z : 201 - height rows j ≡ suc d = omega (arith, k.below, k.deep) in (
            ap (begin f (template_of rows j)) z ∙ begin_suc f (template_of rows j) d
                ∙ ap (λ (l : List Elem). l ++ element_of (f (template_of rows j) d) ∷ []) (begin_share f (template_of rows j) (template_of rows i) d k.shared)
                ∙ ap (λ (x : ℕ). begin f (template_of rows i) d ++ element_of x ∷ []) (sym k.element),
            used j (omega (arith, k.after)) k.in_row,
          );
      every = λ e h.
          let (es, (k, kn, q)) = h in
          let kb : k < n = omega (arith, size) in
          let (lt, s, x) = begin_on f k (suc (len k)) (template_of rows i) (201 - height rows i) e es (sym (at k kb) ∙ q ∙ append_assoc (pre i) (e ∷ []) es) in
          let (j, lo, hi, y) = ((half.done i u).run (goes_on f len n rows half ends i k u s lt)).full k kb s (bounded k (201 - height rows i)) in
          (j, (lo, hi), ap element_of ((kid_of i j u (lo, hi)).element ∙ y) ∙ x);
    }

    -- what a node's record says of its beginning
    pub says : ((k x : ℕ) → cnt (holed f k) x ≤ 9) → (i : ℕ) → i < length rows → Says rows ts pre i
    unfolding pre
    says nine i u = record {
      height = omega (arith, begin_length f (template_of rows i) (201 - height rows i), s.high);
      holes = s.placed ∙ begin_holes f (template_of rows i) (201 - height rows i);
      nine = omega (arith, s.placed, nine (template_of rows i) (201 - height rows i));
      template = ended i u;
    }
      where
        s : Stem f len n (template_of rows i) (height rows i) (elem rows i) (holes rows i)
        s = stem f len n (columns rows) (length rows) (length rows) (length rows) 0 half i u

        ended : (i : ℕ) → i < length rows → elem rows i ≡ 256 → (template_of rows i < length ts) × (get_or ts (template_of rows i) [] ≡ begin f (template_of rows i) (201 - height rows i))
        ended zero u e = absurd (omega (arith, half.root.2))
        ended (suc j) u e =
            let x = half.node (suc j) (omega arith) u in
            let g : suc (len (template_of rows (suc j))) ≡ 201 - height rows (suc j) = omega (arith, x.deep, x.live, ends _ _ (at-end f len n rows half ends (suc j) (omega arith) u e)) in
            (omega (arith, size, x.known), at (template_of rows (suc j)) x.known ∙ ap (begin f (template_of rows (suc j))) g)

-- the first r nodes of the row that was lent
is_built : (m : Marks) (ts : List Bytes) (order : ℕ → ℕ) (first rows : List Node) (r : ℕ) → ReadyToBuild m.placeholder ts first → r ≤ length rows
    → Made m.placeholder ts order rows r r → Built m ts (take r rows)
is_built m ts order first rows r ready le h =
    let small = h.bytes in
    let p = m.placeholder in
    let f = keys p ts in
    let len : ℕ → ℕ = λ k. length (get_or ts k []) in
    let n = length ts in
    let made = take r rows in
    let z : length made ≡ r = length-take-le r rows le in
    let same : (g : Node → ℕ) (j : ℕ) → j < r → g (get_or made j no_node) ≡ g (get_or rows j no_node) = λ g j u. ap g (front_node rows r j u) in
    let agree : Agree f len n (columns rows) (columns made) r r = record {
      template = same (λ x. x.template);
      height = same (λ x. x.height);
      element = same (λ x. x.element);
      holes = same (λ x. x.holes);
      first = same (λ x. x.first);
      number = same (λ x. x.count);
    } in
    let h0 = carry_all f len n (columns rows) (columns made) r agree h.half in
    let half : Half f len n (columns made) (length made) (length made) (length made) 0 = subst (λ (x : ℕ). Half f len n (columns made) x x x 0) (sym z) h0 in
    let old = templates-known p ts small in
    let bounded : (k x : ℕ) → f k x < 258 = λ k x. key_bound p (get_or ts k []) x (small k) in
    let ends : (k x : ℕ) → f k x ≡ 256 → len k ≤ x = λ k x. key_ends p (get_or ts k []) x (small k) in
    let whole-at : (k : ℕ) → k < n → get_or (map (elems m) ts) k [] ≡ begin f k (suc (len k)) = λ k u. map_at (elems m) ts k u ∙ whole m ts k (small k) in
    let size : length (map (elems m) ts) ≡ n = length-map ts (elems m) in
    let nine : (k x : ℕ) → cnt (holed f k) x ≤ 9 = λ k x. omega (arith, holes_most p (get_or ts k []) x (small k), ready.nine k) in
    record {
      tree = record {
        pre = pre f len n made half;
        some_node = half.some_node;
        root = (root_empty f len n made half, half.root.2);
        children = has_children f len n made half bounded ends (map (elems m) ts) size whole-at;
        says = says f len n made half bounded ends (map (elems m) ts) size whole-at nine;
        parent = has_parent f len n made half;
        apart = all_distinct f len n made half;
      };
      count = omega (arith, bound f len (known ts) n old (columns made) (length made) (length made) (length made) 0 half, at_least f len (known ts) n old made half bounded ends);
    }

-- and they stand in it
pub built_in_row : {p : ℕ} {ts : List Bytes} {order : ℕ → ℕ} {first rows : List Node} {r : ℕ} → ReadyToBuild p ts first → length rows ≡ length first
    → NodesMade p ts order rows r r → Builds p ts rows r
built_in_row {p} {ts} {order} {first} {rows} {r} ready e h =
    let u : r ≤ length rows = omega (arith, ready.room, h.within) in record {
      within = u;
      built = λ m q. is_built m ts order first rows r (rw q ready) u (rw q h.made);
    }

-- the tree can be built in a row of the same length too
pub ready_kept : {p : ℕ} {ts : List Bytes} {rows rows' : List Node} → ReadyToBuild p ts rows → length rows' ≡ length rows → ReadyToBuild p ts rows'
ready_kept r e = record { few = r.few; short = r.short; nine = r.nine; room = omega (arith, r.room); small = r.small }
