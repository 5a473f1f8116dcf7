-- The open iterations of a call.
use mathlib.Core.Path.{◌≡◌, refl, sym, ap, ap₂, subst, ◌∙◌}
use mathlib.Core.List.{List, ◌∷◌}
use Prim.Native.Nat.{ℕ, zero, suc, ◌+◌, ◌-◌, ◌≤◌, ◌<◌}
use native.Mathlib.Numerals.{add-one}
use native.Mathlib.Omega.{arith}
use borrow.Author.Count.{below_more}
use lib.ListN.{length, get_or, set}
use lib.Seq.{get_or-set_same, get_or-set_other}
use Rattle.model.specs.declared.Marks.{Marks}
use Rattle.model.specs.Text.{Bytes}
use Rattle.model.specs.Machine.{Loop}
use Rattle.call.specs.declared.Iteration.{Iteration}
use Rattle.call.specs.declared.Call.{Call}
use Rattle.call.specs.Call.{no_iteration, loop_of, loops_of, frame_of, PlacedLoop}

module _ (m : Marks) (text : Bytes) (xs : List Iteration) where
  -- as many as the call says
  pub loops_depth : (k : ℕ) → length (loops_of m text xs k) ≡ k
  unfolding loops_of
  loops_depth zero = refl
  loops_depth (suc k) = ap suc (loops_depth k)

  pub loops_top : (k : ℕ) → 0 < k → loops_of m text xs k ≡ loop_of m text (get_or xs (k - 1) no_iteration) ∷ loops_of m text xs (k - 1)
  unfolding loops_of
  loops_top k h = let z : k ≡ suc (k - 1) = omega arith in ap (λ (n : ℕ). loops_of m text xs n) z

  -- one past the first k is another
  pub loops_past : (i : ℕ) (x : Iteration) (k : ℕ) → k ≤ i → loops_of m text (set xs i x) k ≡ loops_of m text xs k
  unfolding loops_of
  loops_past i x zero h = refl
  loops_past i x (suc k) h =
      ap₂ (λ (y : Iteration) (ls : List Loop). loop_of m text y ∷ ls) (get_or-set_other xs i k x no_iteration (λ z. omega arith)) (loops_past i x k (omega arith))

pub frame_depth : (m : Marks) (text : Bytes) (c : Call) → length (frame_of m text c).loops ≡ c.depth
frame_depth m text c = loops_depth m text c.iterations c.depth

-- the one at place i is another, and the last
module _ (text : Bytes) (xs : List Iteration) (i : ℕ) (x : Iteration) (h : i < length xs) where
  there : get_or (set xs i x) i no_iteration ≡ x
  there = get_or-set_same xs i x no_iteration h

  pub loops_entered : (m : Marks) → loops_of m text (set xs i x) (i + 1) ≡ loop_of m text x ∷ loops_of m text xs i
  unfolding loops_of
  loops_entered m =
      ap (λ (n : ℕ). loops_of m text (set xs i x) n) (add-one i) ∙ ap₂ (λ (y : Iteration) (ls : List Loop). loop_of m text y ∷ ls) there (loops_past m text xs i x i (omega arith))

  pub placed_entered : ((j : ℕ) → j < i → PlacedLoop text (get_or xs j no_iteration)) → PlacedLoop text x
      → (j : ℕ) → j < i + 1 → PlacedLoop text (get_or (set xs i x) j no_iteration)
  placed_entered p q = below_more (λ (j : ℕ). PlacedLoop text (get_or (set xs i x) j no_iteration)) i
      (λ j u. subst (λ (y : Iteration). PlacedLoop text y) (sym (get_or-set_other xs i j x no_iteration (λ z. omega arith))) (p j u))
      (subst (λ (y : Iteration). PlacedLoop text y) (sym there) q)
