-- read_full stops at the end of the input, at a full buffer or at a failed read. Invariant: what is done is within the buffer. Measure:
-- the bytes that are left.
use Rattle.std.proofs.Common.{◌≤◌, ◌-◌, length}
use Rattle.value_examples.proofs.read_full.Given as goal

abbrev pub invariant-loop-done : goal.invariant-loop-done
invariant-loop-done g l = l.done ≤ length l.buf

abbrev pub decreases-loop-done : goal.decreases-loop-done
decreases-loop-done g l = length l.buf - l.done
