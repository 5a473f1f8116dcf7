-- What `put` and its two ways do.
use Rattle.std.specs.Prelude.{◌≡◌, false, List, ℕ, Result, Ok, Err}
use Rattle.model.specs.Store.{put, within, memory_fault}
use Rattle.store.specs.Memory.{held, Holds}
use Rattle.store.specs.Clean.{Clean}
use Rattle.store.specs.declared.Index.{Index}
use Rattle.store.specs.declared.Full.{Full}

-- what the code answers: the index after the text was stored, or no room for it
abbrev pub Stored : Type 0
Stored = Result Index Full

-- document 01's number for an answer: full is 19
abbrev pub stored_fault : Stored → ℕ
stored_fault (Ok y) = 0
stored_fault (Err f) = 19

-- m and x before, m' and r after: the text is stored, or would not be within the limits and nothing changes
pub record Puts (m : List ℕ) (x : Index) (name text m' : List ℕ) (r : Stored) : Type 0 where
  pub number : stored_fault r ≡ memory_fault (within (put name text (held x.count m)))
  pub done : (y : Index) → r ≡ Ok y → Holds m' y (put name text (held x.count m))
  pub full : (f : Full) → r ≡ Err f → (m' ≡ m) × (within (put name text (held x.count m)) ≡ false)

-- where all behind the entries was 0 before, it is after
pub record StaysClean (m : List ℕ) (x : Index) (m' : List ℕ) (r : Stored) : Type 0 where
  pub is : (y : Index) → r ≡ Ok y → Clean m x → Clean m' y
