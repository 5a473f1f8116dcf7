-- check lends room for the rows. The check does not find its length alone: the list is too long to be counted.
use mathlib.Core.Path.{sym}
use Prim.Native.Nat.{ℕ}
use lib.ListN.{length-replicate}
use Rattle.check_text.proofs.check.Goals as goal

pub slice_bounds-check_files-end : goal.slice_bounds-check_files-end
slice_bounds-check_files-end g c = sym (length-replicate {A = ℕ} 1048576 0)
