-- What the code answers, and what an answer comes to in the expansion.
use Rattle.std.specs.Prelude.{Bool, true, false, List, [], ◌∷◌, ℕ, length, take, Result, Ok, Err}
use Rattle.std.proofs.Math.Option.{none, some}
use Rattle.faults.specs.declared.RunFault.{RunFault}
use Rattle.faults.specs.Numbers.{run_number}
use Rattle.model.specs.declared.Marks.{Marks}
use Rattle.model.specs.Text.{Bytes}
use Rattle.model.specs.Store.{listing}
use Rattle.model.specs.Load.{Loaded}
use Rattle.model.specs.Report.{Tally, report_rows, report_bytes}
use Rattle.model.specs.Machine.{Rooms, rooms, Outputs, outputs, Frame, Next, running, ended, state_with, skip_in, after, outcome}
use Rattle.model.specs.Machine as Machine
use Rattle.state.specs.declared.State.{State}
use Rattle.state.specs.State.{shared_of, state_of}
use Rattle.call.specs.declared.Call.{Call}
use Rattle.call.specs.Call.{frame_of}
use Rattle.answer.specs.declared.Turn.{Turn}
use Rattle.answer.specs.declared.Turn.TheVariants.{Continues, Offers, Back, Ends}

-- ---- as the code makes and reads them

abbrev pub Answer : Type 0
Answer = Result Turn RunFault

-- the call goes on, or a fault ends the run
abbrev pub goes_on : Result Unit RunFault → Answer
goes_on (Ok u) = Ok Continues
goes_on (Err fault) = Err fault

abbrev pub is_left : Answer → Bool
is_left (Ok Continues) = false
is_left (Ok Offers) = false
is_left (Ok (Back n)) = true
is_left (Ok Ends) = true
is_left (Err fault) = true

abbrev pub is_offer : Answer → Bool
is_offer (Ok Continues) = false
is_offer (Ok Offers) = true
is_offer (Ok (Back n)) = false
is_offer (Ok Ends) = false
is_offer (Err fault) = false

abbrev pub is_end : Answer → Bool
is_end (Ok Continues) = false
is_end (Ok Offers) = false
is_end (Ok (Back n)) = false
is_end (Ok Ends) = true
is_end (Err fault) = true

-- the lines that are skipped among the callers
abbrev pub lines_back : Answer → ℕ
lines_back (Ok Continues) = 0
lines_back (Ok Offers) = 0
lines_back (Ok (Back n)) = n
lines_back (Ok Ends) = 0
lines_back (Err fault) = 0

-- the number that the run ends with
abbrev pub end_number : Answer → ℕ
end_number (Ok Continues) = 0
end_number (Ok Offers) = 0
end_number (Ok (Back n)) = 0
end_number (Ok Ends) = 0
end_number (Err fault) = run_number fault

-- ---- what one comes to

-- a run that has ended, with no call open: its result is the same
unfoldable pub settle : Next → Next
settle (running s) = running s
settle (ended k s) = ended k (state_with s none [] s.shared)

-- the expansion after an answer, with the callers fs and the tally y, which no code line sees. Where the call goes on, at once or after an offer, it
-- is c, and `line` is what it built
unfoldable pub next_of : Marks → Bytes → (fs : List Frame) → Tally → Answer → Call → State → (line : Bytes) → Outputs → Next
next_of m text fs y (Ok Continues) c s line o = running (state_of text none (frame_of m text c ∷ fs) y s o)
next_of m text fs y (Ok Offers) c s line o = running (state_of text (some line) (frame_of m text c ∷ fs) y s o)
next_of m text fs y (Ok (Back n)) c s line o = settle (skip_in m n fs (shared_of s o) (state_of text none fs y s o))
next_of m text fs y (Ok Ends) c s line o = ended 0 (state_of text none [] y s o)
next_of m text fs y (Err fault) c s line o = ended (run_number fault) (state_of text none [] y s o)

-- the rooms that two lent slices are
abbrev pub rooms_of : Outputs → Rooms
rooms_of o = rooms (length o.first) (length o.second)

-- what the expansion comes to from there, with this fuel
abbrev pub comes_to : ℕ → Rooms → Loaded → Next → Machine.Result
comes_to fuel room t x = outcome t (after fuel room t x)

-- the result of a run of t that ends with an answer
abbrev pub result_after : Loaded → Tally → Answer → State → Outputs → Machine.Result
result_after t y r s o = record {
  number = end_number r;
  line = s.line;
  events = s.events;
  output = outputs (take s.written o.first) (take s.second o.second);
  store = listing s.store;
  report = report_bytes (report_rows t.macros y);
}
