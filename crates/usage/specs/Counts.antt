-- The counts of a run as one row of numbers: one for each macro that a text may have, and a last one for the lines passed through; what they stand
-- for, and the report that is printed from them.
use Rattle.std.specs.Prelude.{◌≡◌, List, ℕ, ◌+◌, ◌≤◌, ◌<◌, length, get_or, take}
use Rattle.model.specs.Limits.{text_most, macros_most, fuel_most, report_least}
use Rattle.model.specs.Text.{Bytes}
use Rattle.model.specs.Load.{Macro, no_macro}
use Rattle.model.specs.Report.{Tally, report_rows, report_bytes}
use Rattle.macros.specs.declared.Entry.{Entry}
use Rattle.macros.specs.Table.{no_entry}
use Rattle.buffer.specs.Written.{Written}

-- the tally of the first n macros
abbrev pub tally_of : ℕ → List ℕ → Tally
tally_of n counts = record { uses = take n counts; passed = get_or counts macros_most 0 }

-- what is kept of the counts while so much fuel is left: no count passes the events that are begun
pub record Counts (counts : List ℕ) (fuel : ℕ) : Type 0 where
  pub long : length counts ≡ macros_most + 1
  pub few : (k : ℕ) → get_or counts k 0 + fuel ≤ fuel_most

-- what a report is printed from: with numbers of lines and counts that a text and a run can have, every row has room
pub record ReadyToReport (entries : List Entry) (counts : List ℕ) (report : Bytes) : Type 0 where
  pub few : length entries ≤ macros_most
  pub lines : (k : ℕ) → k < length entries → (get_or entries k no_entry).line ≤ text_most
  pub long : length counts ≡ macros_most + 1
  pub counted : (k : ℕ) → get_or counts k 0 ≤ fuel_most
  pub room : report_least ≤ length report

-- the macros stand on the lines of the entries
pub record OnLines (ms : List Macro) (entries : List Entry) : Type 0 where
  pub as_many : length ms ≡ length entries
  pub same : (k : ℕ) → k < length entries → (get_or ms k no_macro).line ≡ (get_or entries k no_entry).line

-- the report of the macros of the entries, whatever their templates and bodies are, is the first r bytes of report'; the others are unchanged
pub record PrintsReport (entries : List Entry) (counts : List ℕ) (report : Bytes) (r : ℕ) (report' : Bytes) : Type 0 where
  pub is : (ms : List Macro) → OnLines ms entries → Written report (report_bytes (report_rows ms (tally_of (length entries) counts))) r report'
