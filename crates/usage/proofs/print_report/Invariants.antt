-- print_report adds the head, a row a turn, and the last row. Invariant: the rows of the first k macros come after the head, and the other
-- entries and counts are left.
use Rattle.std.proofs.Common.{length}
use Rattle.std.specs.Slice.Iter.{iter_rest}
use Rattle.usage.proofs.Report.{Reporting}
use Rattle.usage.proofs.print_report.Given as goal

abbrev pub invariant-loop-entry : goal.invariant-loop-entry
invariant-loop-entry l =
    let left = l.entry-iterator in
    Reporting l.entries l.counts l.initial.report l.initial.at (length l.yielded) (iter_rest left.a) (iter_rest left.b) l.at l.report
