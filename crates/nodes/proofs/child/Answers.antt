-- child finds the child with the key by a binary search among the children.
-- The check does not find this goal alone, nor with the law named at the function.
use Rattle.std.proofs.Common.{◌≡◌, ◌+◌, option_map}
use borrow.Author.Rules.{rules}
use Rattle.std.proofs.lemmas.List.Sorted.{answers_always}
use Rattle.nodes.proofs.Looks.{child_searched}
use Rattle.nodes.proofs.child.Goals as goal

pub returns : goal.returns
returns c =
    let facts = c.binary_search_by_key.ensures in
    let by_key = facts.position (λ n. n.element) (answers_always _ _ _ (λ f a r g called. search rules)) in
    let found = child_searched c.args.key c.requires c.first_child-first.ensures c.end_of_children-end.ensures _ facts.bound by_key in
    let mapped : c.map.result ≡ option_map (λ i. c.first_child-first.result + i) c.ok.result = search rules in
    rw (mapped, c.ok.ensures.value) found
