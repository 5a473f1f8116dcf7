-- The laws of a node's children: what is found among them, in a row and in the tree at its front, and what the one fact about a row says of it.
use mathlib.Core.Path.{◌≡◌, refl, sym, ◌∙◌, ap, subst}
use mathlib.Core.Bool.{Bool, true, false}
use mathlib.Core.List.{List, [], ◌∷◌, ◌++◌, map}
use mathlib.Core.Logic.{⊎_elim}
use Prim.Native.Nat.{ℕ, zero, suc, ◌+◌, ◌≤◌, ◌<◌}
use native.Mathlib.Omega.{arith}
use native.Mathlib.Nat.{eq-or-lt_of_le}
use lib.ListN.{length, get_or, take, length-append, get_or-eq_default}
use lib.Seq.{length-take-le, get_or-take}
use borrow.Author.Tests.{ne_eqb}
use Rattle.std.specs.Prelude.{Option}
use Rattle.std.proofs.lemmas.Option.{IfSome_then}
use Rattle.model.specs.declared.Marks.{Marks}
use Rattle.model.specs.Text.{Bytes}
use Rattle.model.specs.Parts.{Elem, lit, hole, stop, elems}
use Rattle.model.specs.Places.{same_elem}
use Rattle.model.specs.Children.{placeholder_key, element_of, Begins, holes_in}
use Rattle.nodes.specs.declared.Node.{Node}
use Rattle.nodes.specs.Rows.{no_node, elem, first_of, count_of, among, kid, holey, height, holes, Child, Ascending, InRun, ChildFor}
use Rattle.nodes.specs.SideBySide.{Children, SideBySide, Stands}
use Rattle.model.proofs.Children.{Compared, equal, different, compared, one_key, key_hole, holes_append}

-- ---- the first node with an element

-- what is found among the n nodes from j on is one of them, with the element
record Hit (rows : List Node) (e : Elem) (j n r : ℕ) : Type 0 where
  low : j ≤ r
  high : r < j + n
  that : element_of (elem rows r) ≡ e

-- what is found is one of the nodes
among_hit : (rows : List Node) (e : Elem) (j n m : ℕ) → among rows e j n ≡ suc m → Hit rows e j n (suc m)
unfolding among
among_hit rows e j zero m w = absurd (omega arith)
among_hit rows e j (suc n) m w = by (same_elem (element_of (elem rows j)) e) (compared (element_of (elem rows j)) e) (among_hit rows e (suc j) n m) w
  where
    by : (t : Bool) → Compared (element_of (elem rows j)) e t → (among rows e (suc j) n ≡ suc m → Hit rows e (suc j) n (suc m))
        → ◌≡◌ {A = ℕ} (elim t [ true ↦ j | false ↦ among rows e (suc j) n ]) (suc m) → Hit rows e j (suc n) (suc m)
    by true (equal a) ih h = record { low = omega arith; high = omega arith; that = ap (λ (r : ℕ). element_of (elem rows r)) (sym h) ∙ a }
    by false (different a) ih h = let x = ih h in record { low = omega arith; high = omega arith; that = x.that }

-- a node that has the element is found, if none before it has
among_first : (rows : List Node) (e : Elem) (j n i : ℕ) → j ≤ i → i < j + n → element_of (elem rows i) ≡ e → ((l : ℕ) → j ≤ l → l < i → ¬ (element_of (elem rows l) ≡ e)) → among rows e j n ≡ i
unfolding among
among_first rows e j zero i l u w none = absurd (omega arith)
among_first rows e j (suc n) i l u w none =
    by (same_elem (element_of (elem rows j)) e) (compared (element_of (elem rows j)) e) (λ q. among_first rows e (suc j) n i q (omega arith) w (λ k a b. none k (omega arith) b))
  where
    by : (t : Bool) → Compared (element_of (elem rows j)) e t → (suc j ≤ i → among rows e (suc j) n ≡ i) → ◌≡◌ {A = ℕ} (elim t [ true ↦ j | false ↦ among rows e (suc j) n ]) i
    by true (equal a) ih = ⊎_elim (λ q. q) (λ q. absurd (none j (omega arith) q a)) (eq-or-lt_of_le l)
    by false (different a) ih = ih (⊎_elim (λ q. absurd (a (ap (λ (r : ℕ). element_of (elem rows r)) q ∙ w))) (λ q. q) (eq-or-lt_of_le l))

-- where none has it, none is found
pub among_none : (rows : List Node) (e : Elem) (j n : ℕ) → ((l : ℕ) → j ≤ l → l < j + n → ¬ (element_of (elem rows l) ≡ e)) → among rows e j n ≡ 0
unfolding among
among_none rows e j zero none = refl
among_none rows e j (suc n) none =
    by (same_elem (element_of (elem rows j)) e) (compared (element_of (elem rows j)) e) (among_none rows e (suc j) n (λ l p q. none l (omega arith) (omega arith)))
  where
    by : (t : Bool) → Compared (element_of (elem rows j)) e t → among rows e (suc j) n ≡ 0 → ◌≡◌ {A = ℕ} (elim t [ true ↦ j | false ↦ among rows e (suc j) n ]) 0
    by true (equal a) ih = absurd (none j (omega arith) (omega arith) a)
    by false (different a) ih = ih

-- ---- children

-- what is found for an element is a child with that element
pub kid_child : (rows : List Node) (i : ℕ) (e : Elem) (m : ℕ) → kid rows i e ≡ suc m → Child rows i (suc m) × (element_of (elem rows (suc m)) ≡ e)
kid_child rows i e m w =
    let h = among_hit rows e (first_of rows i) (count_of rows i) m w in
    ((h.low, h.high), h.that)

-- children that ascend have different keys, so a child with the element is the one that is found
pub kid_is : (rows : List Node) (i : ℕ) (e : Elem) (c : ℕ) → Ascending rows i → Child rows i c → element_of (elem rows c) ≡ e → kid rows i e ≡ c
kid_is rows i e c up h w = among_first rows e (first_of rows i) (count_of rows i) c h.0 h.1 w (λ l p q z.
    omega (arith, up l c (p, omega (arith, h.1, q)) h q, one_key (elem rows l) (elem rows c) (z ∙ sym w)))

-- the child for a byte is no placeholder's
pub kid-lit : (rows : List Node) (i b m : ℕ) → kid rows i (lit b) ≡ suc m → holey rows (suc m) ≡ false
unfolding same_elem
kid-lit rows i b m w = key_hole (elem rows (suc m)) ∙ ap (λ (e : Elem). same_elem e hole) (kid_child rows i (lit b) m w).1

-- a node with a child stands in the row: past its end no node has one
has_child : (rows : List Node) (i j : ℕ) → Child rows i j → i < length rows
has_child rows i j h =
    let past : ¬ (length rows ≤ i) = λ l. let w = get_or-eq_default rows no_node {n = i} l in omega (arith, h.0, h.1, ap (λ (n : Node). n.first) w, ap (λ (n : Node). n.count) w) in
    omega (arith, past)

-- ---- the tree of the templates

module _ {m : Marks} {ts : List Bytes} {rows : List Node} (tree : SideBySide m ts rows) where
  -- what is had of a node that has a child
  run_of : (i j : ℕ) → Child rows i j → Children rows (map (elems m) ts) tree.pre i
  run_of i j h = tree.children i (has_child rows i j h)

  module _ (i : ℕ) (e : Elem) (k : ℕ) (w : kid rows i e ≡ suc k) where
    -- the found one as a child
    found : Child rows i (suc k)
    found = (kid_child rows i e k w).0

    -- it stands in the row
    pub kid-within : suc k < length rows
    kid-within = omega (arith, (run_of i (suc k) found).in_row, found.1)

    -- its beginning is longer by the element
    pub kid-longer : tree.pre (suc k) ≡ tree.pre i ++ e ∷ []
    kid-longer = ((run_of i (suc k) found).each (suc k) found).0 ∙ ap (λ (x : Elem). tree.pre i ++ x ∷ []) (kid_child rows i e k w).1

    -- it is less high
    pub kid-falls : height rows (suc k) < height rows i
    kid-falls = omega (
      arith,
      (tree.says (suc k) kid-within).height,
      (tree.says i (has_child rows i (suc k) found)).height,
      ap length kid-longer ∙ length-append (tree.pre i) (e ∷ []),
    )

    -- it has the placeholders of its element more
    kid-holes : holes rows (suc k) ≡ holes rows i + holes_in (e ∷ [])
    kid-holes =
        (tree.says (suc k) kid-within).holes ∙ ap holes_in kid-longer ∙ holes_append (tree.pre i) (e ∷ [])
        ∙ ap (λ (n : ℕ). n + holes_in (e ∷ [])) (sym (tree.says i (has_child rows i (suc k) found)).holes)

  -- a byte counts no placeholder
  pub holes-lit : (i b k : ℕ) → kid rows i (lit b) ≡ suc k → holes rows (suc k) ≡ holes rows i
  unfolding holes_in
  holes-lit i b k w = kid-holes i (lit b) k w ∙ omega arith

  -- nor does the end
  pub holes-stop : (i k : ℕ) → kid rows i stop ≡ suc k → holes rows (suc k) ≡ holes rows i
  unfolding holes_in
  holes-stop i k w = kid-holes i stop k w ∙ omega arith

  -- a placeholder counts one
  pub holes_hole : (i k : ℕ) → kid rows i hole ≡ suc k → holes rows (suc k) ≡ holes rows i + 1
  unfolding holes_in
  holes_hole i k w = kid-holes i hole k w

  -- the root is no placeholder's
  pub root_plain : holey rows 0 ≡ false
  root_plain = ne_eqb (elem rows 0) placeholder_key (λ z. omega (arith, tree.root.1, z))

  -- and counts none
  pub root_holes : holes rows 0 ≡ 0
  unfolding holes_in
  root_holes = (tree.says 0 tree.some_node).holes ∙ ap holes_in tree.root.0

  -- every other node has a beginning of the templates
  pub has_template : (j : ℕ) → 0 < j → j < length rows → Begins (map (elems m) ts) (tree.pre j)
  has_template j z lt = let (i, _, h) = tree.parent j z lt in ((run_of i j h).each j h).1

-- ---- a tree at the front of a row

-- the first nodes of a row are its own
pub front_node : (row : List Node) (made i : ℕ) → i < made → get_or (take made row) i no_node ≡ get_or row i no_node
front_node row made i lt = get_or-take made row i no_node lt

-- and so is what is found among them
front_among : (row : List Node) (made : ℕ) (e : Elem) (j n : ℕ) → j + n ≤ made → among (take made row) e j n ≡ among row e j n
unfolding among
front_among row made e j zero le = refl
front_among row made e j (suc n) le =
    ap (λ (x : Node). elim (same_elem (element_of x.element) e) [ true ↦ j | false ↦ among (take made row) e (suc j) n ]) (front_node row made j (omega arith))
    ∙ ap (λ (m : ℕ). elim (same_elem (element_of (elem row j)) e) [ true ↦ j | false ↦ m ]) (front_among row made e (suc j) n (omega arith))

module _ {row : List Node} {made : ℕ} (s : Stands row made) where
  -- there are as many of them
  pub front_long : length (take made row) ≡ made
  front_long = length-take-le made row s.within

  -- one at least
  pub front_root : 0 < made
  front_root = omega (arith, s.tree.some_node, front_long)

  module _ (node : ℕ) (lt : node < made) where
    -- the node is the row's
    same : get_or (take made row) node no_node ≡ get_or row node no_node
    same = front_node row made node lt

    -- what the fact says of its children
    run : Children (take made row) (map (elems s.marks) s.templates) s.tree.pre node
    run = s.tree.children node (omega (arith, front_long, lt))

    -- they stand among the first nodes
    children_inside : first_of row node + count_of row node ≤ made
    children_inside = omega (arith, front_long, subst (λ (x : Node). x.first + x.count ≤ length (take made row)) same run.in_row)

    -- and are children there
    child_inside : (j : ℕ) → Child row node j → Child (take made row) node j
    child_inside j h = subst (λ (x : Node). (x.first ≤ j) × (j < x.first + x.count)) (sym same) h

    -- with the keys that they have in the row
    key_inside : (j : ℕ) → Child row node j → elem (take made row) j ≡ elem row j
    key_inside j h = ap (λ (n : Node). n.element) (front_node row made j (omega (arith, h.1, children_inside)))

    -- so the children stand in the row, and ascend up to the placeholder's key
    pub front_run : InRun row node
    front_run = record {
      there = omega (arith, lt, s.within);
      in_row = omega (arith, children_inside, s.within);
      ascending = λ j l g h u. omega (arith, run.ascending j l (child_inside j g) (child_inside l h) u, key_inside j g, key_inside l h);
      greatest = λ j g. omega (arith, run.greatest j (child_inside j g), key_inside j g);
    }

    -- the child in the row is the tree's
    pub front_child : (k : ℕ) (r : Option ℕ) → ChildFor row node k r → ChildFor (take made row) node k r
    front_child k r c = record {
      is = c.is ∙ sym (front_among row made (element_of k) (first_of row node) (count_of row node) children_inside)
          ∙ ap (λ (x : Node). among (take made row) (element_of k) x.first x.count) (sym same);
      child = IfSome_then r c.child child_inside;
      within = IfSome_then r c.child (λ j h. omega (arith, h.1, children_inside, front_long));
    }

    -- and comes after the node, so it is not the root
    pub child_after : (j : ℕ) → Child row node j → node < j
    child_after j h = run.after j (child_inside j h)
