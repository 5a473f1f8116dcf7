-- fill_children appends the children of a node: each is the node of the next key, for which there is room; at the run's end none is left.
-- The check finds none of these goals alone, nor with the laws named at the function.
use mathlib.Core.Path.{refl}
use Rattle.tree.proofs.Filling.{child_fits, room_in_row, grown, all_filled}
use Rattle.tree.proofs.fill_children.Goals as goal

pub make_child-requires : goal.make_child-requires
make_child-requires c =
    child_fits _ _ _ c.loop-at.invariant c.end_of_children-end.ensures c.args.ordered.now.in_order.1 c.depth_of-d.ensures c.take_run-r.ensures.1 c.requires.0.ready c.take_run-r.ensures.0

pub bounds-nodes-c : goal.bounds-nodes-c
bounds-nodes-c c =
    room_in_row _ _ _ c.loop-at.invariant c.end_of_children-end.ensures c.args.ordered.now.in_order.1 c.depth_of-d.ensures c.take_run-r.ensures.1 c.requires.0.ready c.loop-at.auto.nodes

pub loop-at-preserved : goal.loop-at-preserved
loop-at-preserved c =
    let longer = room_in_row _ _ _ c.loop-at.invariant c.end_of_children-end.ensures c.args.ordered.now.in_order.1 c.depth_of-d.ensures c.take_run-r.ensures.1 c.requires.0.ready c.loop-at.auto.nodes in
    grown _ _ _ c.loop-at.invariant c.end_of_children-end.ensures c.args.ordered.now.in_order.1 c.depth_of-d.ensures c.take_run-r.ensures.1 c.requires.0.ready longer
    c.take_run-r.ensures.0 c.make_child.ensures refl

pub returns : goal.returns
returns c = all_filled _ _ _ c.loop-at.invariant c.end_of_children-end.ensures c.args.ordered.now.in_order.1 c.loop-at-test.false
