-- fill writes the layout part by part: each has room, and at the end all are written.
-- The check finds none of these goals alone, nor with the laws named at the function.
use Rattle.write.proofs.Fields.{laying_room, laying_all}
use Rattle.write.proofs.layout.LayoutContent.fill.Goals as goal

pub put_part-i-requires-clause-out_long : goal.put_part-i-requires-clause-out_long
put_part-i-requires-clause-out_long c = laying_room c.loop-i.invariant c.requires

pub returns : goal.returns
returns c = laying_all c.loop-i.invariant c.requires c.loop-i-test.false
