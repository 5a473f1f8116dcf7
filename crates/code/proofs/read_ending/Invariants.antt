-- read_ending: the rest of the line ends as the whole does, up to its end.
use lib.ListN.{length}
use Prim.Native.Nat.{◌-◌}
use Rattle.code.proofs.Lines.{Ahead}
use Rattle.code.proofs.read_ending.Given as goal

abbrev pub invariant-loop-k : goal.invariant-loop-k
invariant-loop-k l = Ahead l.m l.line l.at

abbrev pub decreases-loop-k : goal.decreases-loop-k
decreases-loop-k l = length l.line - l.at
