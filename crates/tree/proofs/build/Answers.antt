-- build makes the root, with all templates, and the tree grows from there.
-- The check finds none of these goals alone, nor with the laws named at the function.
use mathlib.Core.Path.{refl, ◌∙◌}
use lib.ListN.{length-set}
use Rattle.macros.proofs.Entries.{templates_in_length}
use Rattle.tree.proofs.Known.{table_small}
use Rattle.tree.proofs.Built.{ready_kept, built_in_row}
use Rattle.tree.proofs.Filling.{root_alone}
use Rattle.tree.proofs.build.Goals as goal

pub grow_tree-requires : goal.grow_tree-requires
grow_tree-requires c =
    let o = c.args.ordered.now in
    let small = table_small o.text.now o.table.now o.table.now.count c.bound_bytes.ensures in
    let planted = root_alone _ _ _ small _ o.table.now.count c.requires (templates_in_length o.text.now o.table.now o.table.now.count) c.make_root.ensures refl in
    (ready_kept c.requires (length-set c.args.nodes.now 0 c.make_root.result), planted)

pub returns : goal.returns
returns c = built_in_row c.requires (c.grow_tree.auto.nodes ∙ length-set c.args.nodes.now 0 c.make_root.result) c.grow_tree.ensures
