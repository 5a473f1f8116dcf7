-- drop_lines passes over input lines: the loop keeps `Dropping`, that with all but those dropped from the state's place on all n are dropped.
use Rattle.input.proofs.Lines.{Dropping}
use Rattle.input.proofs.drop_lines.Given as goal

abbrev pub invariant-loop-dropped : goal.invariant-loop-dropped
invariant-loop-dropped l = Dropping l.text l.n l.initial.s l.s l.dropped
