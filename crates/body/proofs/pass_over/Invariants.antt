-- pass_over: the lines left, from the place reached on, come to what all of them come to.
use Rattle.body.proofs.Laws.{Passing}
use Rattle.body.proofs.pass_over.Given as goal

abbrev pub invariant-loop-passed : goal.invariant-loop-passed
invariant-loop-passed l = Passing l.marked.marks l.marked.text.now l.at l.n l.i l.depth l.passed
