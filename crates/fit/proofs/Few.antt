-- From the root the search of the row's tree takes up few places and reads few bytes, so that its counts are exact. The laws: taken_fits, read_fits.
use Rattle.std.proofs.Common.{◌≡◌, ℕ, zero, suc, ◌^◌, ◌<◌, ◌≤◌, Bool, false, eqb, List, [], length, refl, ap, ◌∙◌, mul-le-mul, arith}
use Rattle.model.specs.declared.Marks.{Marks}
use Rattle.model.specs.Text.{Bytes}
use Rattle.model.specs.Parts.{Elem, lit, hole, stop}
use Rattle.model.specs.Children.{end_key}
use Rattle.model.specs.Places.{is_in, Tried, try_place, same_elem}
use Rattle.model.proofs.Choices.{false-not-true}
use Rattle.model.proofs.Once.{Kids, fair, few_places}
use Rattle.model.proofs.Looks.{few_bytes}
use Rattle.nodes.specs.declared.Node.{Node}
use Rattle.nodes.specs.Rows.{elem, kid, holey, height}
use Rattle.nodes.specs.SideBySide.{SideBySide}
use Rattle.model.proofs.Children.{key_stop}
use Rattle.nodes.proofs.Rows.{kid_child, kid-falls, kid-within}

module _ (rows : List Node) where
  -- a template ends at the node
  ends_at : ℕ → Bool
  ends_at zero = false
  ends_at (suc j) = eqb (elem rows (suc j)) end_key

  -- which children are such ends: those for the end
  ends-at : (i : ℕ) (e : Elem) (c : ℕ) → kid rows i e ≡ suc c → ends_at (suc c) ≡ same_elem e stop
  unfolding ends_at
  ends-at i e c w = key_stop (elem rows (suc c)) ∙ ap (λ (x : Elem). same_elem x stop) (kid_child rows i e c w).1

  -- a tree of at most 2,048 nodes, and a line of at most 200 bytes
  module _ (m : Marks) {marks : Marks} {templates : List Bytes} (tree : SideBySide marks templates rows) (few : length rows ≤ 2048) (line : Bytes) (short : length line ≤ 200) (n : ℕ) where
    -- the search from the root
    abbrev whole : Tried
    whole = try_place m (kid rows) (holey rows) n 0 0 line []

    kids : Kids (kid rows) (height rows) (length rows) ends_at
    unfolding same_elem
    kids = record {
      falls = kid-falls tree;
      inside = kid-within tree;
      at_stop = λ i c w. ends-at i stop c w;
      at_lit = λ i b c w. ends-at i (lit b) c w;
      at_hole = λ i c w. ends-at i hole c w;
    }

    few_taken : length whole.taken ≤ 411648
    unfolding ends_at is_in
    few_taken =
        let f = fair m (kid rows) (holey rows) (height rows) (length rows) ends_at kids line n 0 0 [] tree.some_node (omega arith) refl (λ i p e. false-not-true e) in
        let p = few_places m (kid rows) (holey rows) (height rows) (length rows) ends_at kids line [] whole _ f in
        let u = mul-le-mul {n₁ = length rows} {m₁ = suc (length line)} {n₂ = 2048} {m₂ = 201} few (omega arith) in
        omega (arith, p, u)

    -- the counts are words of 64 bits
    pub taken_fits : length whole.taken < 2 ^ 64
    taken_fits = omega (arith, few_taken)

    pub read_fits : whole.bytes < 2 ^ 64
    read_fits = omega (arith, few_bytes m (kid rows) (holey rows) 200 n 0 0 line [] short, few_taken)
