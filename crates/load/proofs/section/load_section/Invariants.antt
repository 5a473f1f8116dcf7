-- load_section loads line by line. The loop's invariant: what is left to load from a line on comes to what the whole section comes to. The
-- measure: the bytes left.
use Prim.Native.Nat.{◌-◌}
use lib.ListN.{length, drop}
use Rattle.model.specs.Text.{lines}
use Rattle.model.specs.Load.{none_read, load_from}
use Rattle.load.specs.Section.{LinesRead}
use Rattle.load.proofs.section.load_section.Given as goal

abbrev pub invariant-loop-at : goal.invariant-loop-at
invariant-loop-at l = LinesRead l.marked.marks l.marked.text.now (load_from l.marked.marks none_read 1 (lines (drop l.first l.marked.text.now))) l.loader l.n l.at

abbrev pub decreases-loop-at : goal.decreases-loop-at
decreases-loop-at l = length l.marked.text.now - l.at
