-- fill_children appends the children of a node. The loop's invariant: `Filling`. Its measure: the places left of the node's run.
use Rattle.std.proofs.Common.{◌-◌}
use Rattle.templates.specs.Listed.{templates_of, order_of}
use Rattle.tree.proofs.Filling.{Filling}
use Rattle.tree.proofs.fill_children.Given as goal

abbrev pub invariant-loop-at : goal.invariant-loop-at
invariant-loop-at l = Filling l.ordered.mark (templates_of l.ordered) (order_of l.ordered) l.nodes l.i l.made l.parent l.c l.at

abbrev pub decreases-loop-at : goal.decreases-loop-at
decreases-loop-at l = l.end - l.at
