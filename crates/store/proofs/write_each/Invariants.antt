-- write_each writes a part and a mark for each entry.
use Rattle.store.proofs.Writing.{Writing}
use Rattle.store.proofs.write_each.Given as goal

abbrev pub invariant-loop-entry : goal.invariant-loop-entry
invariant-loop-entry l =
    (goal.iterator-loop-entry).can_next l.entry-iterator ×
    (goal.iterator-loop-entry).is_finite l.entry-iterator × Writing l.memory l.fn.index l.part l.mark l.initial.room l.start l.entry-iterator l.w l.room
