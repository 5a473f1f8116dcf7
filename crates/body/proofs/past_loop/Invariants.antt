-- past_loop: the lines past the iteration, sought from the place reached on.
use Prim.Native.Nat.{◌-◌}
use lib.ListN.{length}
use Rattle.body.proofs.Laws.{Leaving}
use Rattle.body.proofs.past_loop.Given as goal

abbrev pub invariant-loop-p : goal.invariant-loop-p
invariant-loop-p l = Leaving l.marked.marks l.marked.text.now l.at l.i l.depth

abbrev pub decreases-loop-p : goal.decreases-loop-p
decreases-loop-p l = length l.marked.text.now - l.i
