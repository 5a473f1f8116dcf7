-- find_byte finds the first b from `from` on, or the end: the loop has passed no b.
use lib.ListN.{length}
use Rattle.scan.proofs.Places.{Seeking}
use Rattle.scan.proofs.find_byte.Given as goal

abbrev pub invariant-loop-i : goal.invariant-loop-i
invariant-loop-i l = Seeking l.s l.from (length l.s) l.b l.i
