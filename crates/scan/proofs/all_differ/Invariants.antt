-- all_differ is the test `distinct`: no byte before the rest stands again after it.
use lib.ListN.{length}
use Rattle.scan.proofs.FlagLine.{Differing}
use Rattle.scan.proofs.all_differ.Given as goal

abbrev pub invariant-loop-rest : goal.invariant-loop-rest
invariant-loop-rest l = Differing l.s l.rest

abbrev pub decreases-loop-rest : goal.decreases-loop-rest
decreases-loop-rest l = length l.rest
