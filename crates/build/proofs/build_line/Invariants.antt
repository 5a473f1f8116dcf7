-- build_line: what is left of the code line comes to the same as the whole, up to its end or the first fault. The invariant is `Partly`, which says so;
-- the measure is what is left of the code line.
use lib.ListN.{length}
use Prim.Native.Nat.{◌-◌}
use Rattle.build.proofs.Lines.{Partly}
use Rattle.build.proofs.build_line.Given as goal

abbrev pub invariant-loop-ending : goal.invariant-loop-ending
invariant-loop-ending l = Partly l.m l.code l.call l.initial.s l.line l.s l.at

abbrev pub decreases-loop-ending : goal.decreases-loop-ending
decreases-loop-ending l = length l.code - l.at
