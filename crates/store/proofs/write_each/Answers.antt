-- write_each writes a part and a mark for each entry.
-- The check finds none of these goals alone, nor with the laws named at the function.
use Rattle.store.proofs.Writing.{write_room, write_done}
use Rattle.store.proofs.write_each.Goals as goal

pub write_marked-w-requires : goal.write_marked-w-requires
write_marked-w-requires c = write_room c.loop-entry.invariant.2 c.in-Some.ensures.steps c.part_of.ensures

pub returns : goal.returns
returns c = write_done c.loop-entry.invariant.2 c.in-None.ensures.steps
