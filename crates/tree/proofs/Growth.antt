-- The growth of the row, store by store.
use mathlib.Core.Path.{◌≡◌, refl, sym, ◌∙◌, ap}
use mathlib.Core.List.{List}
use mathlib.Core.Logic.{⊎_elim}
use Prim.Native.Nat.{ℕ, ◌+◌, ◌-◌, ◌≤◌, ◌<◌}
use native.Mathlib.Omega.{arith}
use lib.Dec.{eqb}
use lib.ListN.{length, get_or, set}
use lib.Seq.{get_or-set_same, get_or-set_other}
use Rattle.nodes.specs.declared.Node.{Node}
use Rattle.nodes.specs.Rows.{no_node, elem, template_of, height}
use Rattle.templates.specs.Keys.{one}
use Rattle.tree.specs.Nodes.{columns, Half, with_kids, below, root_node}
use Rattle.templates.proofs.Keys.{eq_or}
use Rattle.tree.proofs.Nodes.{Next, Agree, run_none, stem, reach, carry, append, close}

-- a node that is given its children changes no other
pub unlinked : (rows : List Node) (i F m j : ℕ) → ¬ (j ≡ i) → get_or (set rows i (with_kids (get_or rows i no_node) F m)) j no_node ≡ get_or rows j no_node
unlinked rows i F m j q = get_or-set_other rows i j (with_kids (get_or rows i no_node) F m) no_node q

module _ (f : ℕ → ℕ → ℕ) (len : ℕ → ℕ) (n : ℕ) where
  -- a node stored past the others changes none of them
  pub stored : (rows : List Node) (i c : ℕ) (r : Node) → i ≤ c → Agree f len n (columns rows) (columns (set rows c r)) i c
  stored rows i c r le =
      let other : (j : ℕ) → j < c → get_or (set rows c r) j no_node ≡ get_or rows j no_node = λ j w. get_or-set_other rows c j r no_node (λ z. omega arith) in
      record {
        template = λ j w. ap (λ (x : Node). x.template) (other j w);
        height = λ j w. ap (λ (x : Node). x.height) (other j w);
        element = λ j w. ap (λ (x : Node). x.element) (other j w);
        holes = λ j w. ap (λ (x : Node). x.holes) (other j w);
        first = λ j w. ap (λ (x : Node). x.first) (other j (omega arith));
        number = λ j w. ap (λ (x : Node). x.count) (other j (omega arith));
      }

  -- and where its children stand changes nothing else of a node
  pub relinked : (rows : List Node) (i c F m : ℕ) → i < length rows → Agree f len n (columns rows) (columns (set rows i (with_kids (get_or rows i no_node) F m))) i c
  relinked rows i c F m u =
      let r = with_kids (get_or rows i no_node) F m in
      let kept : (g : Node → ℕ) → g r ≡ g (get_or rows i no_node) → (j : ℕ) → g (get_or (set rows i r) j no_node) ≡ g (get_or rows j no_node) =
      λ g e j. ⊎_elim (λ q. rw q (ap g (get_or-set_same rows i r no_node u) ∙ e)) (λ q. ap g (unlinked rows i F m j q)) (eq_or j i) in
      record {
        template = λ j w. kept (λ x. x.template) refl j;
        height = λ j w. kept (λ x. x.height) refl j;
        element = λ j w. kept (λ x. x.element) refl j;
        holes = λ j w. kept (λ x. x.holes) refl j;
        first = λ j w. ap (λ (x : Node). x.first) (unlinked rows i F m j (λ z. omega arith));
        number = λ j w. ap (λ (x : Node). x.count) (unlinked rows i F m j (λ z. omega arith));
      }

module _ (f : ℕ → ℕ → ℕ) (len : ℕ → ℕ) (n : ℕ) (ended : (k x : ℕ) → len k ≤ x → f k x ≡ 256) where
  -- the node of the next key is stored
  pub grow : (rows : List Node) (i c F low key who from end : ℕ) → Half f len n (columns rows) i c F low → i < c → c < length rows → ¬ (elem rows i ≡ 256)
      → Next f n (template_of rows i) (201 - height rows i) low key who → key < 258 → 0 < height rows i
      → Half f len n (columns (set rows c (below (get_or rows i no_node) key who from end))) i (c + 1) F (key + 1)
  grow rows i c F low key who from end half u v ne l kb hp =
      let r = below (get_or rows i no_node) key who from end in
      let rows' = set rows c r in
      let g = stored f len n rows i c r (omega arith) in
      let same : get_or rows' c no_node ≡ r = get_or-set_same rows c r no_node v in
      let l' : Next f n (template_of rows' i) (201 - height rows' i) low key who = rw (g.template i u, g.height i u) l in
      append f len n (columns rows') i c F low (carry f len n (columns rows) (columns rows') i c g F low u half) u ended key who (λ z. ne (sym (g.element i u) ∙ z)) l' kb
      (ap (λ (x : Node). x.template) same) (omega (arith, ap (λ (x : Node). x.height) same, g.height i u)) (ap (λ (x : Node). x.element) same)
      (ap (λ (x : Node). x.holes) same ∙ ap (λ (x : ℕ). x + one (eqb key 257)) (sym (g.holes i u)))

  pub has-height : ((k : ℕ) → k < n → len k ≤ 200) → (rows : List Node) (i c F low key who : ℕ) → Half f len n (columns rows) i c F low → i < c → ¬ (elem rows i ≡ 256)
      → Next f n (template_of rows i) (201 - height rows i) low key who → key < 258 → 0 < height rows i
  has-height short rows i c F low key who half u ne l kb = omega (arith, short who (l.there kb).0, reach f len n ended _ _ _ _ low key who (stem f len n (columns rows) i c F low half i u) ne l kb)

  -- where the children of a node stand is stored
  pub linked : (rows : List Node) (i c F low : ℕ) → Half f len n (columns rows) i c F low → i < F → i < c → i < length rows → (elem rows i ≡ 256 → F ≡ c)
      → (¬ (elem rows i ≡ 256) → low ≡ 258) → Half f len n (columns (set rows i (with_kids (get_or rows i no_node) F (c - F)))) (i + 1) c c 0
  linked rows i c F low half af u v sole all =
      let r = with_kids (get_or rows i no_node) F (c - F) in
      let g = relinked f len n rows i c F (c - F) v in
      let same : get_or (set rows i r) i no_node ≡ r = get_or-set_same rows i r no_node v in
      let h = carry f len n (columns rows) (columns (set rows i r)) i c g F low u half in
      close f len n (columns (set rows i r)) i c F low h u af (λ z. sole (sym (g.element i u) ∙ z)) (λ z. all (λ y. z (g.element i u ∙ y)))
      (ap (λ (x : Node). x.first) same) (ap (λ (x : Node). x.count) same)

  -- the root alone, with so many templates
  pub planted : (rows : List Node) (many : ℕ) → 0 < length rows → Half f len n (columns (set rows 0 (root_node many))) 0 1 1 0
  planted rows many u =
      let same : get_or (set rows 0 (root_node many)) 0 no_node ≡ root_node many = get_or-set_same rows 0 (root_node many) no_node u in
      record {
        begun = omega arith;
        some_node = omega arith;
        root = (ap (λ (x : Node). x.template) same, ap (λ (x : Node). x.height) same, ap (λ (x : Node). x.element) same, ap (λ (x : Node). x.holes) same);
        node = λ j a b. absurd (omega arith);
        done = λ p a. absurd (omega arith);
        parent = λ j a b. absurd (omega arith);
        distinct = λ j l a b. absurd (omega arith);
        from = omega arith;
        run = run_none f len n (columns (set rows 0 (root_node many))) _ _ 1;
      }
