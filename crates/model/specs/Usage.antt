-- The lines offered among the events that a run counts, and what its usage report says of them (document 02, request 7). They are counted here
-- event by event, apart from the machine's own tally.
use Rattle.std.specs.Prelude.{◌≡◌, true, false, List, ℕ, zero, suc, ◌+◌, ◌≤◌, ◌<◌, eqb, length, get_or, take}
use Rattle.std.proofs.Math.Option.{Option, none, some}
use Rattle.model.specs.Limits.{report_least}
use Rattle.model.specs.declared.Ran.{Ran}
use Rattle.model.specs.Text.{Bytes}
use Rattle.model.specs.Reading.{Reading, chosen}
use Rattle.model.specs.Load.{templates, no_macro, Loaded}
use Rattle.model.specs.Report.{Row, report_rows, report_bytes, total, NoLess}
use Rattle.model.specs.Machine.{Rooms, State, Next, running, ended, ready, event, after, initial}

-- ---- events

unfoldable pub count_at : (State → ℕ) → Next → ℕ
count_at go (ended k s) = 0
count_at go (running s) = go s

-- the next n events from x on, each with the number that f gives for the line which it offers, or for none
unfoldable pub events_of : (Option Bytes → ℕ) → ℕ → Rooms → Loaded → Next → ℕ
events_of f zero room t x = 0
events_of f (suc n) room t x = count_at (λ s. count_at (λ s'. f s'.pending + events_of f n room t (event room t s')) (ready t.marks s)) x

-- an event that offers a line
unfoldable pub offers_line : Option Bytes → ℕ
offers_line none = 0
offers_line (some l) = 1

-- and one that offers a line of which this was decided
unfoldable pub decides : Loaded → (Option Reading → ℕ) → Option Bytes → ℕ
decides t g none = 0
decides t g (some l) = g (chosen t.marks (templates t.macros) l)

-- the i-th template is chosen
unfoldable pub is_chosen : ℕ → Option Reading → ℕ
is_chosen i none = 0
is_chosen i (some r) = elim (eqb r.which i) [ true ↦ 1 | false ↦ 0 ]

-- no template is
unfoldable pub is_passed : Option Reading → ℕ
is_passed none = 1
is_passed (some r) = 0

-- ---- a run

-- the lines offered among the expansion's events that a run with this fuel counts
unfoldable pub lines_offered : ℕ → Rooms → Loaded → ℕ
lines_offered fuel room t = events_of offers_line fuel room t (running (initial t))

-- those of which this was decided
unfoldable pub lines_decided : (Option Reading → ℕ) → ℕ → Rooms → Loaded → ℕ
lines_decided g fuel room t = events_of (decides t g) fuel room t (running (initial t))

-- the state of a machine that goes on or has ended
unfoldable pub last_state : Next → State
last_state (running s) = s
last_state (ended k s) = s

-- the rows of the report after so many events
unfoldable pub rows_after : ℕ → Rooms → Loaded → List Row
rows_after fuel room t = report_rows t.macros (last_state (after fuel room t (running (initial t)))).tally

-- what the report of a run with this fuel says; r is the answer, and report' the room that was lent for it, as the run leaves it
pub record ReportsUse (t : Loaded) (fuel : ℕ) (room : Rooms) (r : Ran) (report' : Bytes) : Type 0 where
  -- it is that of the rows after the events which the run counts
  pub is : take r.report report' ≡ report_bytes (rows_after fuel room t)
  pub short : r.report ≤ report_least
  -- a row for each template, with its line number and how many of the lines offered it was chosen for
  pub uses : (i : ℕ) → i < length t.macros → get_or (rows_after fuel room t) i (0, 0) ≡ ((get_or t.macros i no_macro).line, lines_decided (is_chosen i) fuel room t)
  -- then 0, with the lines offered that no template was chosen for
  pub passed : get_or (rows_after fuel room t) (length t.macros) (0, 0) ≡ (0, lines_decided is_passed fuel room t)
  pub rows : length (rows_after fuel room t) ≡ length t.macros + 1
  -- together they are the lines offered
  pub adds_up : total (rows_after fuel room t) ≡ lines_offered fuel room t
  -- with more fuel no count is smaller
  pub grows : (more : ℕ) → fuel ≤ more → NoLess (rows_after fuel room t) (rows_after more room t)
  -- the events are counted in the same way, one each
  pub events : r.events ≡ events_of (λ _. 1) fuel room t (running (initial t))
