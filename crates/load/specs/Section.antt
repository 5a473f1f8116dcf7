-- What the section comes to, line by line.
use Rattle.std.specs.Prelude.{◌≡◌, ℕ, ◌≤◌, length, drop}
use Rattle.model.specs.declared.Marks.{Marks}
use Rattle.model.specs.Text.{Bytes, lines}
use Rattle.model.specs.Load.{Load, lowest_at, load_from}
use Rattle.faults.specs.declared.LoadFault.{LoadFault}
use Rattle.faults.specs.Numbers.{load_number}
use Rattle.load.specs.declared.Loader.{Loader}
use Rattle.load.specs.declared.Refused.{Refused}
use Rattle.load.specs.Lines.{progress_of, TableSound}

-- the answer for a fault of line n, where the line after it starts at `next`
pub record RefusesAt (text : Bytes) (next : ℕ) (f : LoadFault) (n : ℕ) (r : Refused) : Type 0 where
  pub lowest : load_number r.fault ≡ lowest_at (lines (drop next text)) (load_number f)
  pub line : r.line ≡ n

-- n lines are read, and what those from `at` on come to is x
pub record LinesRead (m : Marks) (text : Bytes) (x : Load) (l : Loader) (n at : ℕ) : Type 0 where
  pub same : load_from m (progress_of m text l) n (lines (drop at text)) ≡ x
  pub sound : TableSound m text l
  pub within : at ≤ length text
  pub read : n ≤ at
