-- scan_atom finds the end of the line's first atom, and counts the bytes that it reads. The loop keeps `Scan`: the bytes from `at` to i leave `depth` brackets open,
-- one at least, and the atom is these bytes with what closes the open brackets from i on, if anything does.
-- The check finds none of these goals alone, nor with the laws named at the function.
use borrow.Author.Rules.{rules}
use native.Mathlib.Omega.{arith}
use Rattle.atom.proofs.Atoms.{none_past_end, none_at_right, one_byte, scan_step, scan_closed}
use Rattle.atom.proofs.scan_atom.Goals as goal

pub returns-then-line-at : goal.returns-then-line-at
returns-then-line-at c = search (none_past_end, rules)

pub returns-then-b-right : goal.returns-then-b-right
returns-then-b-right c = search (none_at_right, rules)

pub returns-then-b-left : goal.returns-then-b-left
returns-then-b-left c = search (one_byte, rules)

pub returns-then-depth-eq0 : goal.returns-then-depth-eq0
returns-then-depth-eq0 c =
    let l = c.loop-i in
    scan_closed _ _ _ _ _ c.if-depth-eq0.true (scan_step _ _ _ _ l.depth _ c.depth_past-depth.ensures (search rules) (omega (arith, l.invariant.0)) l.invariant.1)

pub loop-i-preserved : goal.loop-i-preserved
loop-i-preserved c =
    let l = c.loop-i in
    (omega (arith, c.if-depth-eq0.false), scan_step _ _ _ _ l.depth _ c.depth_past-depth.ensures (search rules) (omega (arith, l.invariant.0)) l.invariant.1)
