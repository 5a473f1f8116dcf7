-- A line more in the counts is a line more in the tally that they stand for, and no count passes the events that are begun.
use mathlib.Core.Path.{◌≡◌, refl, ap, ap₂, ◌∙◌}
use mathlib.Core.Option.{none, some}
use mathlib.Core.List.{List, [], ◌∷◌}
use Prim.Native.Nat.{ℕ, zero, suc, ◌+◌, ◌-◌, ◌≤◌, ◌<◌}
use native.Mathlib.Omega.{arith}
use native.Mathlib.Numerals.{add-one}
use lib.ListN.{length, get_or, set, take, replicate, length-replicate}
use Rattle.model.specs.Limits.{macros_most, fuel_most}
use Rattle.model.specs.Load.{Macro}
use Rattle.model.specs.Report.{no_lines, one_more_of, tallied}
use Rattle.model.proofs.Usage.{more-length, more_same, more_other}
use Rattle.usage.specs.Counts.{tally_of, Counts}

-- ---- one more at a place

-- it is stored there
pub more_stored : (i : ℕ) (ns : List ℕ) → set ns i (get_or ns i 0 + 1) ≡ one_more_of i ns
unfolding one_more_of
more_stored i [] = refl
more_stored zero (n ∷ ns) = ap (λ (x : ℕ). x ∷ ns) (add-one n)
more_stored (suc i) (n ∷ ns) = ap (λ (l : List ℕ). n ∷ l) (more_stored i ns)

-- no count has two more
more_most : (i : ℕ) (ns : List ℕ) (j : ℕ) → get_or (one_more_of i ns) j 0 ≤ get_or ns j 0 + 1
unfolding one_more_of
more_most i [] j = omega arith
more_most zero (n ∷ ns) zero = omega arith
more_most zero (n ∷ ns) (suc j) = omega arith
more_most (suc i) (n ∷ ns) zero = omega arith
more_most (suc i) (n ∷ ns) (suc j) = more_most i ns j

-- among the first n
more_first : (n i : ℕ) (ns : List ℕ) → take n (one_more_of i ns) ≡ one_more_of i (take n ns)
unfolding one_more_of
more_first zero i ns = refl
more_first (suc n) i [] = refl
more_first (suc n) zero (x ∷ ns) = refl
more_first (suc n) (suc i) (x ∷ ns) = ap (λ (l : List ℕ). x ∷ l) (more_first n i ns)

-- after them
more_past : (n i : ℕ) (ns : List ℕ) → n ≤ i → take n (one_more_of i ns) ≡ take n ns
unfolding one_more_of
more_past zero i ns h = refl
more_past (suc n) i [] h = refl
more_past (suc n) zero (x ∷ ns) h = absurd (omega arith)
more_past (suc n) (suc i) (x ∷ ns) h = ap (λ (l : List ℕ). x ∷ l) (more_past n i ns (omega arith))

-- ---- the tally

-- a line that template k is chosen for
pub counts_chosen : (n k : ℕ) (counts : List ℕ) → k < n → n ≤ macros_most → tally_of n (one_more_of k counts) ≡ tallied (some k) (tally_of n counts)
unfolding tallied
counts_chosen n k counts h l =
    ap₂ (λ (us : List ℕ) (p : ℕ). record { uses = us; passed = p }) (more_first n k counts) (more_other k macros_most counts (λ e. omega arith))

-- a line that is passed through
pub counts_passed : (n : ℕ) (counts : List ℕ) → n ≤ macros_most → length counts ≡ macros_most + 1 → tally_of n (one_more_of macros_most counts) ≡ tallied none (tally_of n counts)
unfolding tallied
counts_passed n counts l e =
    ap₂ (λ (us : List ℕ) (p : ℕ). record { uses = us; passed = p }) (more_past n macros_most counts l)
    (more_same macros_most counts (omega arith) ∙ add-one (get_or counts macros_most 0))

-- the first of many noughts
first_noughts : (n k : ℕ) → n ≤ k → take n (replicate {A = ℕ} k 0) ≡ replicate n 0
first_noughts zero k h = refl
first_noughts (suc n) zero h = absurd (omega arith)
first_noughts (suc n) (suc k) h = ap (λ (l : List ℕ). 0 ∷ l) (first_noughts n k (omega arith))

-- each of them
nought_at : (n k : ℕ) → get_or (replicate {A = ℕ} n 0) k 0 ≡ 0
nought_at zero k = refl
nought_at (suc n) zero = refl
nought_at (suc n) (suc k) = nought_at n k

-- before any line
pub counts_none : (ms : List Macro) → length ms ≤ macros_most → tally_of (length ms) (replicate 129 0) ≡ no_lines ms
unfolding no_lines
counts_none ms h = ap₂ (λ (us : List ℕ) (p : ℕ). record { uses = us; passed = p }) (first_noughts (length ms) 129 (omega arith)) (nought_at 129 128)

-- ---- what is kept while fuel is left

-- an event that counts a line
pub counts_more : {counts : List ℕ} {fuel : ℕ} → Counts counts fuel → 0 < fuel → (k : ℕ) → Counts (one_more_of k counts) (fuel - 1)
counts_more {counts} {fuel} c h k = record { long = more-length k counts ∙ c.long; few = λ j. omega (arith, more_most k counts j, c.few j) }

-- one that counts none
pub counts_less : {counts : List ℕ} {fuel f : ℕ} → Counts counts fuel → f ≤ fuel → Counts counts f
counts_less c h = record { long = c.long; few = λ j. omega (arith, c.few j) }

-- at the start
pub counts_start : {fuel : ℕ} → fuel ≤ fuel_most → Counts (replicate 129 0) fuel
counts_start h = record { long = length-replicate {A = ℕ} 129 0; few = λ j. omega (arith, nought_at 129 j) }
