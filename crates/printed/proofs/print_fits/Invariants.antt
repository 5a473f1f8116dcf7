-- print_fits adds a row for each line. Invariant: the rows of some lines are there, and those of the bytes left make the whole.
use Rattle.std.specs.Slice.Iter.{split_inclusive_rest}
use Rattle.printed.proofs.Rows.{Rowing}
use Rattle.printed.proofs.print_fits.Given as goal

abbrev pub invariant-loop-line : goal.invariant-loop-line
invariant-loop-line l = Rowing l.text l.file l.initial.out (split_inclusive_rest l.line-iterator) l.w l.out
