-- copy pastes all of src, byte by byte: after i of them dest is what it was, with the first i bytes of src from offset `at` on.
use Rattle.buffer.specs.Pasted.{Pasted}
use Rattle.buffer.proofs.copy.Given as goal

abbrev pub invariant-loop-i : goal.invariant-loop-i
invariant-loop-i l = Pasted l.initial.dest l.at l.src l.i l.dest
