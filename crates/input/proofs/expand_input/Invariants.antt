-- expand_input reads the input line by line: the loop keeps `Expanding`, that the expansion comes to the same from here on, and the input left falls.
use Rattle.std.proofs.Common.{◌-◌, length}
use Rattle.model.specs.Machine.{outputs}
use Rattle.input.proofs.Whole.{Expanding}
use Rattle.input.proofs.expand_input.Given as goal

abbrev pub invariant-loop-s : goal.invariant-loop-s
invariant-loop-s l =
    Expanding l.script l.initial.s (outputs l.initial.output l.initial.second) l.initial.counts
    l.s (outputs l.output l.second) l.counts

abbrev pub decreases-loop-s : goal.decreases-loop-s
decreases-loop-s l = length l.script.text - l.s.at
