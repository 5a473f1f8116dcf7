-- What a run's state, with the lent outputs, stands for in the expansion.
use Rattle.std.proofs.Math.Option.{Option}
use Rattle.std.specs.Prelude.{List, ℕ, ◌+◌, ◌-◌, ◌≤◌, length, take, drop}
use Rattle.model.specs.Limits.{fuel_most}
use Rattle.model.specs.Text.{Bytes, lines}
use Rattle.model.specs.Report.{Tally}
use Rattle.model.specs.Machine as Machine
use Rattle.model.specs.Machine.{Frame, Outputs, outputs, Shared}
use Rattle.model.specs.Store.{Store}
use Rattle.state.specs.declared.State.{State}

-- what every call shares
abbrev pub shared_of : State → Outputs → Shared
shared_of s o = record { symbols = s.symbols; store = s.store; output = outputs (take s.written o.first) (take s.second o.second) }

-- the expansion's state, with a line that is perhaps to be offered, the open calls, and what was decided of the lines offered
abbrev pub state_of : Bytes → Option Bytes → List Frame → Tally → State → Outputs → Machine.State
state_of text pending frames y s o =
    record { input = lines (drop s.at text); line = s.line; pending = pending; frames = frames; calls = s.calls; shared = shared_of s o; events = s.events; tally = y }

-- what every function of a run asks of its state
pub record Sound (text : Bytes) (s : State) (o : Outputs) : Type 0 where
  -- each line that is read has a byte at least, so that lines are never too many to be counted
  pub within : s.at ≤ length text
  pub lines : s.line + length text ≤ fuel_most + s.at
  pub written : s.written ≤ length o.first
  pub second : s.second ≤ length o.second
  -- each number of ed2 has its name
  pub symbols : s.symbols ≤ length s.store
  pub calls : s.calls ≤ s.events
  pub total : s.events + s.fuel ≤ fuel_most

-- ---- changes of one part

abbrev pub counted_event : State → State
counted_event s = record s { events = s.events + 1; fuel = s.fuel - 1 }

abbrev pub with_store : State → Store → State
with_store s x = record s { store = x }

abbrev pub with_written : State → (first second : ℕ) → State
with_written s n k = record s { written = n; second = k }

abbrev pub with_input : State → (at line : ℕ) → State
with_input s at line = record s { at = at; line = line }

abbrev pub with_call : State → State
with_call s = record s { calls = s.calls + 1 }
