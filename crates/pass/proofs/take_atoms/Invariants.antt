-- take_atoms takes atom after atom. The loop keeps `Taking`: what the pass takes from `at` on is the bytes from `at` to i and then the
-- piece from i on. The measure is the length of the line less i.
use Prim.Native.Nat.{◌-◌}
use lib.ListN.{length}
use Rattle.pass.proofs.Pieces.{Taking}
use Rattle.pass.proofs.take_atoms.Given as goal

abbrev pub invariant-loop-b : goal.invariant-loop-b
invariant-loop-b l = Taking l.m l.line l.at l.list l.end

abbrev pub decreases-loop-b : goal.decreases-loop-b
decreases-loop-b l = length l.line - l.end
