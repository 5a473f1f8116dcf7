-- scan_atom finds the end of the line's first atom, and counts the bytes that it reads. The loop keeps `Scan`: the bytes from `at` to i leave `depth` brackets open,
-- one at least, and the atom is these bytes with what closes the open brackets from i on, if anything does.
use Rattle.std.proofs.Common.{◌<◌}
use Rattle.atom.specs.Atoms.{brackets}
use Rattle.atom.proofs.Atoms.{Scan}
use Rattle.atom.proofs.scan_atom.Given as goal

abbrev pub invariant-loop-i : goal.invariant-loop-i
invariant-loop-i l = (0 < l.depth) × Scan (brackets l.left l.right) l.line l.at l.i l.depth
