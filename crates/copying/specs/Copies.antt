-- What copying input lines ensures. In each record s and o are the state and the outputs before, r is the answer, and s' and o' are the state and
-- the outputs after.
use Rattle.std.specs.Prelude.{◌≡◌, Bool, true, false, List, ◌∷◌, ℕ, ◌+◌, ◌≤◌, length, drop, Result, Err}
use Rattle.std.proofs.Math.Option.{none}
use Rattle.faults.specs.declared.RunFault.{RunFault}
use Rattle.faults.specs.declared.RunFault.TheVariants.{LongInput}
use Rattle.model.specs.Limits.{fuel_most}
use Rattle.model.specs.declared.Marks.{Marks}
use Rattle.model.specs.declared.Channel.{Channel}
use Rattle.model.specs.Text.{Bytes, lines}
use Rattle.model.specs.Report.{Tally}
use Rattle.model.specs.Machine.{Outputs, Frame, copies, is_too_long, copy_lines}
use Rattle.state.specs.declared.State.{State}
use Rattle.state.specs.State.{shared_of, state_of, Sound}
use Rattle.call.specs.declared.Call.{Call}
use Rattle.call.specs.Call.{frame_of}
use Rattle.answer.specs.Answers.{goes_on, settle, next_of, rooms_of}
use Rattle.answer.specs.Kept.{Stays, ExtendsBoth, Comes}
use Rattle.write.specs.Output.{Writes}

-- what is asked of the state: where the input is read, and how much is written
pub record ReadyToCopy (text : Bytes) (s : State) (o : Outputs) : Type 0 where
  pub within : s.at ≤ length text
  pub lines : s.line + length text ≤ fuel_most + s.at
  pub written : s.written ≤ length o.first
  pub second : s.second ≤ length o.second

-- whether a content of n bytes is too long to be copied
pub record MeasuresLong (ch : Channel) (n : ℕ) (r : Bool) : Type 0 where
  pub is : (c : Bytes) → length c ≡ n → r ≡ is_too_long ch c

-- a content is written to a channel, or it is too long, nothing changes and the run ends with 11
pub record CopiesContent (ch : Channel) (content : Bytes) (s : State) (o : Outputs) (r : Result Unit RunFault) (s' : State) (o' : Outputs) : Type 0 where
  pub long : is_too_long ch content ≡ true → (r ≡ Err LongInput) × (s' ≡ s) × (o' ≡ o)
  pub writes : is_too_long ch content ≡ false → Writes ch content s o r s' o'

-- r is what copying the input lines left comes to, in whatever call, up to one that begins with the name
pub record CopiesLines (m : Marks) (text : Bytes) (ch : Channel) (name : Bytes) (s : State) (o : Outputs) (r : Result Unit RunFault) (s' : State) (o' : Outputs) : Type 0 where
  pub same : (fs : List Frame) (y : Tally) (c : Call) (b : Bytes)
      → settle (copy_lines m (rooms_of o) ch name (lines (drop s.at text)) (state_of text none (frame_of m text c ∷ fs) y s o)) ≡ next_of m text fs y (goes_on r) c s' b o'
  pub sound : Sound text s o → Sound text s' o'
  pub stays : Stays s s'
  pub extends : ExtendsBoth o s o' s'

-- r is what F2 comes to in the call c
pub record CopiesInput (m : Marks) (text : Bytes) (ch : Channel) (c : Call) (s : State) (o : Outputs) (r : Result Unit RunFault) (s' : State) (o' : Outputs) : Type 0 where
  pub comes : (b : Bytes) → Sound text s o → Comes m text (copies (rooms_of o) ch (frame_of m text c) (shared_of s o)) s o b (goes_on r) s' c o'
