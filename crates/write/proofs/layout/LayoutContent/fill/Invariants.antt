-- add_to adds the layout part by part: the loop keeps `LayoutSoFar`, that its first i bytes are written, and how many are left falls.
use lib.ListN.{length}
use Prim.Native.Nat.{◌-◌}
use Rattle.write.proofs.Fields.{LayoutSoFar}
use Rattle.write.proofs.layout.LayoutContent.fill.Given as goal

abbrev pub invariant-loop-i : goal.invariant-loop-i
invariant-loop-i l = LayoutSoFar l.self.m l.text l.self.call.now l.initial.out l.i l.out

abbrev pub decreases-loop-i : goal.decreases-loop-i
decreases-loop-i l = length l.text - l.i
