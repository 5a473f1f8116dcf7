-- What reading the input ensures, and the whole run.
use Rattle.std.specs.Prelude.{◌≡◌, List, [], ℕ, ◌+◌, ◌≤◌, min, length, drop}
use Rattle.std.proofs.Math.Option.{none}
use Rattle.model.specs.Text.{Bytes, lines}
use Rattle.model.specs.Load.{Loaded}
use Rattle.model.specs.Machine.{Outputs, running}
use Rattle.state.specs.declared.State.{State}
use Rattle.state.specs.State.{Sound, state_of, with_input}
use Rattle.answer.specs.Answers.{Answer, rooms_of, comes_to, result_after}
use Rattle.answer.specs.Kept.{ExtendsBoth}
use Rattle.usage.specs.Counts.{Counts}
use Rattle.matching.specs.Book.{Basis, Book, tally_in}

-- n input lines are dropped, or all that are left
pub record DropsLines (text : Bytes) (n : ℕ) (s s' : State) : Type 0 where
  pub is : s' ≡ with_input s s'.at s'.line
  pub input : lines (drop s'.at text) ≡ drop n (lines (drop s.at text))
  pub line : s'.line ≡ s.line + min n (length (lines (drop s.at text)))
  pub from : s.at ≤ s'.at
  pub within : s'.at ≤ length text
  pub few : s'.line + s.at ≤ s.line + s'.at

-- r ends the run with the expansion's result, by w. s o counts are the state, outputs and counts before, and s' o' counts' those after
pub record Expands (w : Basis) (s : State) (o : Outputs) (counts : List ℕ) (r : Answer) (s' : State) (o' : Outputs) (counts' : List ℕ) : Type 0 where
  pub sound : Sound w.text s' o'
  pub counted : Counts counts' s'.fuel
  pub extends : ExtendsBoth o s o' s'
  pub same : (t : Loaded) → Book w t
      → comes_to s.fuel (rooms_of o) t (running (state_of w.text none [] (tally_in t counts) s o)) ≡ result_after t (tally_in t counts') r s' o'
