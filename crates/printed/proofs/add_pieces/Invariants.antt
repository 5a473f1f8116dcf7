-- add_pieces adds a piece a turn. Invariant: some pieces are there, and those of the starts and lengths that are left make the whole.
use Rattle.std.specs.Slice.Iter.{iter_rest}
use Rattle.printed.proofs.Rows.{Piecing}
use Rattle.printed.proofs.add_pieces.Given as goal

abbrev pub invariant-loop-start : goal.invariant-loop-start
invariant-loop-start l = let left = l.start-iterator in Piecing l.initial.out l.at l.fn.starts l.fn.lens (iter_rest left.a) (iter_rest left.b) l.w l.out
