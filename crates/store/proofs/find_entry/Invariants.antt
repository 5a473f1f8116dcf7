-- find_entry walks the entries up to the first with the name.
use Rattle.store.proofs.Seeking.{Seeking}
use Rattle.store.proofs.find_entry.Given as goal

abbrev pub invariant-loop-entry : goal.invariant-loop-entry
invariant-loop-entry l =
    (goal.iterator-loop-entry).can_next l.entry-iterator ×
    (goal.iterator-loop-entry).is_finite l.entry-iterator × Seeking l.memory l.fn.index l.name l.entry-iterator
