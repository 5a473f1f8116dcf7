-- lend_room lends an array that is as long as the rows may be. The check does not find its length alone: the list is too long to be counted.
use mathlib.Core.Path.{sym, subst}
use Prim.Native.Nat.{ℕ, ◌≤◌}
use native.Mathlib.Nat.{le_refl}
use lib.ListN.{length-replicate}
use Rattle.fit_line.proofs.lend_room.Goals as goal

pub slice_bounds-fit_lines-end : goal.slice_bounds-fit_lines-end
slice_bounds-fit_lines-end g c = sym (length-replicate {A = ℕ} 3342387 0)

pub fit_lines-requires : goal.fit_lines-requires
fit_lines-requires g c =
    record { file_len_bound = c.requires; in_bounds = subst (λ (n : ℕ). 3342387 ≤ n) (sym (length-replicate {A = ℕ} 3342387 0)) (le_refl 3342387) }
