-- The loop keeps `Copied`, that what is left of the input comes to the same, and the text that is left falls.
use Prim.Native.Nat.{◌-◌}
use lib.ListN.{length}
use Rattle.model.specs.Machine.{outputs}
use Rattle.copying.proofs.Lines.{Copied}
use Rattle.copying.proofs.copy_lines.Given as goal

abbrev pub invariant-loop-s : goal.invariant-loop-s
invariant-loop-s l = Copied l.marked.marks l.marked.text.now l.ch l.name l.initial.s (outputs l.initial.output l.initial.second) l.s (outputs l.output l.second)

abbrev pub decreases-loop-s : goal.decreases-loop-s
decreases-loop-s l = length l.marked.text.now - l.s.at
