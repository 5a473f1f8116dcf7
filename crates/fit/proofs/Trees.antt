-- The search of the row's tree takes up as many places as the search of the templates' tree, reads as many bytes, and finds the same. The law:
-- tree_fitting.
use Rattle.std.proofs.Common.{◌≡◌, ℕ, zero, suc, ◌+◌, ◌<◌, Bool, true, false, eqb, List, [], ◌∷◌, ◌++◌, map, length, get_or, sym, refl, ap, ◌∙◌, subst, append_assoc, arith, eq-eqb, ne_eqb}
use lib.ListN.{length-map}
use Rattle.model.specs.declared.Marks.{Marks}
use Rattle.model.specs.Text.{Bytes}
use Rattle.model.specs.Parts.{Elem, hole, elems}
use Rattle.model.specs.Children.{In}
use Rattle.model.specs.Places.{same_elem, number_from, beginnings, beginning_at, child_in, ends_in_hole, holey_in, together, try_place, fitting, places_taken, bytes_read}
use Rattle.model.proofs.Chosen.{Tested, alike, apart, tested}
use Rattle.model.proofs.NodeCount.{last_of}
use Rattle.model.proofs.Renumbered.{Same, Both, neither, both, renumbered}
use Rattle.model.proofs.Beginnings.{Member, number_hit, number-some, has_beginning, is_beginning, child_is, rank_in, rank_falls, ends_in}
use Rattle.nodes.specs.declared.Node.{Node}
use Rattle.nodes.specs.Rows.{elem, kid, holey, height}
use Rattle.nodes.specs.SideBySide.{SideBySide}
use Rattle.model.proofs.Children.{key_hole}
use Rattle.nodes.proofs.Rows.{kid_child, kid_is, kid-within, kid-longer, kid-falls, root_plain, has_template}

-- the number of a beginning, 0 for the empty one
number_of : List (List Elem) → List Elem → ℕ
number_of bs [] = 0
number_of bs (e ∷ es) = number_from 1 (e ∷ es) bs

-- a beginning with a last element is not empty
number_snoc : (bs : List (List Elem)) (p : List Elem) (e : Elem) → number_of bs (p ++ e ∷ []) ≡ number_from 1 (p ++ e ∷ []) bs
unfolding number_of
number_snoc bs [] e = refl
number_snoc bs (x ∷ p) e = refl

-- the elements of the k-th template
pub spelt_at : (m : Marks) (ts : List Bytes) (k : ℕ) → k < length ts → get_or (map (elems m) ts) k [] ≡ elems m (get_or ts k [])
spelt_at m [] k lt = absurd (omega arith)
spelt_at m (t ∷ ts) zero lt = refl
spelt_at m (t ∷ ts) (suc k) lt = spelt_at m ts k (omega arith)

module _ {m : Marks} {ts : List Bytes} {rows : List Node} (tree : SideBySide m ts rows) where
  -- the nodes of the templates' tree, and the beginnings at the row's nodes
  abbrev bs : List (List Elem)
  bs = beginnings m ts

  abbrev pre : ℕ → List Elem
  pre = tree.pre

  -- what the templates have, the list has
  template-of : (es : List Elem) → In (map (elems m) ts) es → (k : ℕ) × (k < length ts) × (elems m (get_or ts k []) ≡ es)
  template-of es (k, l, w) =
      let u : k < length ts = omega (arith, l, length-map ts (elems m)) in
      (k, u, sym (spelt_at m ts k u) ∙ w)

  -- a node's beginning is one of the tree's
  begun : (i : ℕ) (p : List Elem) (e : Elem) → 0 < i → i < length rows → pre i ≡ p ++ e ∷ [] → Member (p ++ e ∷ []) bs
  begun i p e z l w =
      let (es, h) = has_template tree i z l in
      let (k, u, v) = template-of (pre i ++ es) h in
      has_beginning m ts k p e es u (v ∙ ap (λ (q : List Elem). q ++ es) w ∙ append_assoc p (e ∷ []) es)

  -- the beginning with a beginning's number is that one
  back : (i : ℕ) → i < length rows → beginning_at bs (number_of bs (pre i)) ≡ pre i
  unfolding number_of beginning_at
  back zero l = rw tree.root.0 refl
  back (suc i) l = by (pre (suc i)) refl
    where
      by : (q : List Elem) → pre (suc i) ≡ q → beginning_at bs (number_of bs q) ≡ q
      by [] w = refl
      by (x ∷ xs) w =
          let (p, e, v) = last_of (x ∷ xs) (omega arith) in
          let h = begun (suc i) p e (omega arith) l (w ∙ v) in
          let (r, y) = number-some 0 (x ∷ xs) bs (subst (λ (q : List Elem). Member q bs) (sym v) h) in
          let (k, lk, q, z) = number_hit 1 (x ∷ xs) bs r y in
          let s : r ≡ k = omega (arith, q) in
          ap (beginning_at bs) y ∙ ap (λ (j : ℕ). get_or bs j []) s ∙ z

  -- a node of the row and the node of the tree with the same beginning
  record Of (i j : ℕ) : Type 0 where
    there : i < length rows
    number : number_of bs (pre i) ≡ j
    placeholder : holey rows i ≡ ends_in_hole (pre i)

  -- their beginnings are the same
  beginning_of : (i j : ℕ) → Of i j → beginning_at bs j ≡ pre i
  beginning_of i j h = ap (beginning_at bs) (sym h.number) ∙ back i h.there

  -- each node once
  one : (i i' j j' : ℕ) → Of i i' → Of j j' → eqb i j ≡ eqb i' j'
  one i i' j j' g h = by (eqb i j) (tested i j)
    where
      by : (t : Bool) → Tested i j t → t ≡ eqb i' j'
      by true (alike e) = sym (eq-eqb i' j' (sym g.number ∙ ap (λ (k : ℕ). number_of bs (pre k)) e ∙ h.number))
      by false (apart e) =
          sym (ne_eqb i' j' (λ z.
          let w : pre i ≡ pre j = sym (beginning_of i i' g) ∙ ap (beginning_at bs) z ∙ beginning_of j j' h in
          let u : ¬ (i < j) = λ l. tree.apart i j l h.there w in
          let v : ¬ (j < i) = λ l. tree.apart j i l g.there (sym w) in
          e (omega (arith, u, v))))

  -- children correspond
  kids : (i j : ℕ) (e : Elem) → Of i j → Both Of (kid rows i e) (child_in bs j e)
  unfolding child_in
  kids i j e h = by (kid rows i e) (child_in bs j e) refl refl
    where
      same : beginning_at bs j ≡ pre i
      same = beginning_of i j h

      by : (x y : ℕ) → kid rows i e ≡ x → child_in bs j e ≡ y → Both Of x y
      by zero zero u v = neither
      by (suc c) (suc d) u v =
          both c d (record {
            there = kid-within tree i e c u;
            number = ap (number_of bs) (kid-longer tree i e c u) ∙ number_snoc bs (pre i) e ∙ ap (λ (p : List Elem). number_from 1 (p ++ e ∷ []) bs) (sym same) ∙ v;
            placeholder = key_hole (elem rows (suc c)) ∙ ap (λ (x : Elem). same_elem x hole) (kid_child rows i e c u).1 ∙ sym (ap ends_in_hole (kid-longer tree i e c u) ∙ ends_in (pre i) e);
          })
      by (suc c) zero u v =
          let g = begun (suc c) (pre i) e (omega arith) (kid-within tree i e c u) (kid-longer tree i e c u) in
          let (r, y) = number-some 0 (pre i ++ e ∷ []) bs g in
          absurd (omega (arith, sym y ∙ ap (λ (p : List Elem). number_from 1 (p ++ e ∷ []) bs) (sym same) ∙ v))
      by zero (suc d) u v =
          let g = is_beginning m ts (beginning_at bs j ++ e ∷ []) (child_is bs j e d v).0 in
          let w : elems m (get_or ts g.which []) ≡ (pre i ++ e ∷ []) ++ g.rest = g.is ∙ ap (λ (p : List Elem). (p ++ e ∷ []) ++ g.rest) same in
          let run = tree.children i h.there in
          let (c, ch, x) = run.every e (g.rest, (g.which, omega (arith, g.place, length-map ts (elems m)), spelt_at m ts g.which g.place ∙ w)) in
          absurd (omega (arith, run.after c ch, sym (kid_is rows i e c run.ascending ch x) ∙ u))

  -- so are places, bytes and what is found
  pub tree_fitting : (line : Bytes) (n : ℕ) → height rows 0 + length line < n
      → (length (try_place m (kid rows) (holey rows) n 0 0 line []).taken ≡ places_taken m ts line) × ((try_place m (kid rows) (holey rows) n 0 0 line []).bytes ≡ bytes_read m ts line)
      × Same (try_place m (kid rows) (holey rows) n 0 0 line []).found (fitting m ts line).found
  unfolding fitting places_taken bytes_read number_of ends_in_hole holey_in beginning_at
  tree_fitting line n lt =
      let root : Of 0 0 = record { there = tree.some_node; number = ap (number_of bs) tree.root.0; placeholder = root_plain tree ∙ sym (ap ends_in_hole tree.root.0) } in
      renumbered Of one m (kid rows) (child_in bs) (holey rows) (holey_in bs) (height rows) (rank_in bs) (kid-falls tree) (rank_falls bs) kids
      (λ i j h. h.placeholder ∙ sym (ap ends_in_hole (beginning_of i j h))) n (suc (together bs + length line)) 0 0 line root lt (omega arith)
