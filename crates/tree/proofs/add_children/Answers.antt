-- add_children gives a node its children; an end has none.
-- The check finds none of these goals alone, nor with the laws named at the function.
use borrow.Author.Rules.{rules}
use Rattle.tree.proofs.Filling.{link_end, link_full}
use Rattle.tree.proofs.add_children.Goals as goal

pub returns-then-nodes-i-eq-END_KEY : goal.returns-then-nodes-i-eq-END_KEY
returns-then-nodes-i-eq-END_KEY c = link_end _ _ _ c.requires.grown c.requires.next (search rules) c.if-nodes-i-eq-END_KEY.true c.link_children.ensures

pub returns : goal.returns
returns c = link_full _ _ _ c.fill_children-c.ensures c.requires.next (search rules) c.link_children-2.ensures
