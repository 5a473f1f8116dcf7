-- grow_tree gives every node its children. The loop's invariant: `NodesMade`. Its measure: the nodes left that the templates can have.
use Rattle.std.proofs.Common.{◌+◌, ◌-◌}
use Rattle.templates.specs.Listed.{templates_of, order_of}
use Rattle.templates.specs.Count.{beginnings}
use Rattle.tree.specs.Built.{NodesMade}
use Rattle.tree.proofs.grow_tree.Given as goal

abbrev pub invariant-loop-i : goal.invariant-loop-i
invariant-loop-i l = NodesMade l.ordered.mark (templates_of l.ordered) (order_of l.ordered) l.nodes l.i l.c

abbrev pub decreases-loop-i : goal.decreases-loop-i
decreases-loop-i l = beginnings (templates_of l.ordered) + 1 - l.i
