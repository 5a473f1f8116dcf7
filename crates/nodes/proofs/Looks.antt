-- The looks for a child: std's binary search among a node's children, whose keys rise, and the last of them, where the placeholder child stands.
use Rattle.std.proofs.Common.{◌≡◌, Bool, true, false, ℕ, ◌+◌, ◌-◌, ◌<◌, ◌≤◌, List, length, get_or, take, drop, Some, None, Result, Ok, Err, sym, ◌∙◌, ap, refl, option_map, ⊎_elim, arith, get_or-take, get_or-drop, length-take, length-drop}
use Rattle.std.specs.List.Sorted.{IsSearchInRange, IsBinarySearchResult, IsNonDecreasingBy}
use Rattle.std.specs.Ordering.{nat_cmp, ordering_index}
use Rattle.std.specs.Result.{result_ok}
use Rattle.std.proofs.lemmas.Cmp.{ranked}
use Rattle.std.proofs.lemmas.List.Sorted.{IsNonDecreasingBy-from_default}
use Rattle.std.proofs.lemmas.Bool.Decides.{nat_tests}
use lib.Dec.{ltb}
use borrow.Author.Tests.{ltb-true, ltb-false}
use native.Mathlib.Nat.{eq-or-lt_of_le}
use Rattle.model.specs.Children.{placeholder_key, element_of}
use Rattle.model.proofs.Children.{one_key}
use Rattle.nodes.specs.declared.Node.{Node}
use Rattle.nodes.specs.Rows.{no_node, elem, first_of, count_of, Child, InRun, ChildFor}
use Rattle.nodes.proofs.Rows.{among_none, kid_is}

-- a part of the row as a slice
abbrev part_of : List Node → ℕ → ℕ → List Node
part_of rows first end = take (end - first) (drop first rows)

module _ {rows : List Node} {node : ℕ} (key : ℕ) (run : InRun rows node) where
  -- where none of the children has the key, none is found
  pub none_found : ((j : ℕ) → Child rows node j → ¬ (elem rows j ≡ key)) → ChildFor rows node key None
  none_found none = record {
    is = sym (among_none rows (element_of key) (first_of rows node) (count_of rows node) (λ j p q w. none j (p, q) (one_key (elem rows j) key w)));
    child = tt;
    within = tt;
  }

  -- one that has it is found
  pub one_found : (j : ℕ) → Child rows node j → elem rows j ≡ key → ChildFor rows node key (Some j)
  one_found j h e = record {
    is = sym (kid_is rows node (element_of key) j run.ascending h (ap element_of e));
    child = h;
    within = omega (arith, h.1, run.in_row);
  }

  module _ {first end : ℕ} (f : first ≡ first_of rows node) (g : end ≡ first_of rows node + count_of rows node) where
    -- they are so many
    long : length (part_of rows first end) ≡ end - first
    long = simp (length-take, length-drop) (omega (arith, run.in_row))

    -- each is a child, whose key is that of its node
    key_there : (i : ℕ) → i < end - first → (get_or (part_of rows first end) i no_node).element ≡ elem rows (first + i)
    key_there i lt = ap (λ (n : Node). n.element) (get_or-take (end - first) (drop first rows) i no_node lt ∙ get_or-drop first rows i no_node)

    -- the comparisons with the key rise along them, as a binary search asks
    comparisons_rise : IsNonDecreasingBy (λ n. ordering_index (nat_cmp n.element key)) (part_of rows first end)
    comparisons_rise = IsNonDecreasingBy-from_default (λ n. ordering_index (nat_cmp n.element key)) (part_of rows first end) no_node (λ i j le in_range.
        let lt : j < end - first = omega (arith, in_range, long) in
        let keys_rise : elem rows (first + i) ≤ elem rows (first + j) =
        ⊎_elim (λ e. omega (arith, ap (λ (k : ℕ). elem rows (first + k)) e))
        (λ e. omega (arith, run.ascending (first + i) (first + j) (omega (arith, f), omega (arith, f, g, lt, e)) (omega (arith, f), omega (arith, f, g, lt)) (omega (arith, e))))
        (eq-or-lt_of_le {n = i} {m = j} le) in
        let x = key_there i (omega (arith, le, lt)) in
        let y = key_there j lt in
        grind (arith, nat_tests))

    -- a binary search by key ends at the child with the key, or there is none
    pub child_searched : (r : Result ℕ ℕ) → IsSearchInRange r (length (part_of rows first end)) → IsBinarySearchResult (λ n. nat_cmp n.element key) (part_of rows first end) r
        → ChildFor rows node key (option_map (λ i. first + i) (result_ok r))
    child_searched (Ok i) in_range equal =
        let lt : i < end - first = omega (arith, in_range, long) in
        one_found (first + i) (omega (arith, f), omega (arith, f, g, lt)) (sym (key_there i lt) ∙ ranked _ key _ (sym (equal no_node)))
    child_searched (Err i) in_range parted = none_found (λ j h e.
        let k : ℕ = j - first in
        let lt : k < end - first = omega (arith, f, g, h.0, h.1) in
        let w : (get_or (part_of rows first end) k no_node).element ≡ key = key_there k lt ∙ ap (elem rows) (omega (arith, f, h.0)) ∙ e in
        by k lt w (ltb k i) refl)
      where
        by : (k : ℕ) → k < end - first → (get_or (part_of rows first end) k no_node).element ≡ key → (t : Bool) → ltb k i ≡ t → ⊥
        by k lt w true t =
            let x : (get_or (part_of rows first end) k no_node).element < key = ranked _ key _ (sym ((parted comparisons_rise).0 k no_node (omega arith) (ltb-true k i t))) in
            omega (arith, x, w)
        by k lt w false t =
            let x : key < (get_or (part_of rows first end) k no_node).element = ranked _ key _ (sym ((parted comparisons_rise).1 k no_node (ltb-false k i t) (omega (arith, lt, long)))) in
            omega (arith, x, w)

-- ---- the run's end

module _ {rows : List Node} {node : ℕ} (run : InRun rows node) where
  -- a node without children has no placeholder child
  pub no_children : count_of rows node ≡ 0 → ChildFor rows node placeholder_key None
  no_children z = none_found placeholder_key run (λ j h e. omega (arith, z, h.0, h.1))

  module _ {last : ℕ} (z : ¬ (count_of rows node ≡ 0)) (l : last ≡ first_of rows node + count_of rows node - 1) where
    -- a node with children has a last one
    last_child : Child rows node last
    last_child = (omega (arith, z, l), omega (arith, z, l))

    -- if it is a placeholder's, it is the child
    pub last_found : elem rows last ≡ placeholder_key → ChildFor rows node placeholder_key (Some last)
    last_found e = one_found placeholder_key run last last_child e

    -- else there is none: its key is the greatest, and smaller than the placeholder's
    pub last_other : ¬ (elem rows last ≡ placeholder_key) → ChildFor rows node placeholder_key None
    last_other e = none_found placeholder_key run (λ j h w.
        let x : elem rows last < placeholder_key = omega (arith, run.greatest last last_child, e) in
        let le : j ≤ last = omega (arith, h.0, h.1, l) in
        ⊎_elim (λ r. omega (arith, x, w, ap (elem rows) r)) (λ r. omega (arith, x, w, run.ascending j last h last_child r)) (eq-or-lt_of_le {n = j} {m = last} le))
