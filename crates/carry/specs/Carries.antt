-- A whole code line, as the expansion carries it out, and its end.
use Rattle.std.specs.Prelude.{◌≡◌, false, List, ◌∷◌, ◌≤◌, ◌<◌, length}
use Rattle.std.proofs.Math.Option.{none}
use Rattle.model.specs.Limits.{line_most, nesting_most}
use Rattle.model.specs.declared.Marks.{Marks}
use Rattle.model.specs.declared.Effect.TheVariants.{Opens}
use Rattle.model.specs.Text.{Bytes}
use Rattle.model.specs.Code.{effect_of}
use Rattle.model.specs.Load.{Loaded}
use Rattle.model.specs.Report.{Tally}
use Rattle.model.specs.Machine.{Frame, finish, running, Outputs}
use Rattle.code.specs.declared.Ending.{Ending}
use Rattle.code.specs.Tokens.{ending_of, Ranged}
use Rattle.state.specs.declared.State.{State}
use Rattle.state.specs.State.{shared_of, state_of}
use Rattle.call.specs.declared.Call.{Call}
use Rattle.call.specs.Call.{frame_of}
use Rattle.answer.specs.Answers.{Answer, is_left, next_of, comes_to, rooms_of}
use Rattle.answer.specs.Kept.{Open, Comes, Follows}

-- what was read of a code line's end, and the line built: an iteration is opened only where it may be
pub record ReadyToFinish (code : Bytes) (c : Call) (k : Ending) (line : Bytes) : Type 0 where
  pub ranged : Ranged code k
  pub depth : effect_of (ending_of code k) ≡ Opens → c.depth < nesting_most
  pub short : length line ≤ line_most

-- In the records below c, s and o are the call, the state and the outputs before, and r is the answer; s', c' and o' are they after, with `line` built.

-- r is what is done at the end k of a code line
pub record Finishes (m : Marks) (text code : Bytes) (c : Call) (k : Ending) (line : Bytes) (s : State) (o : Outputs) (r : Answer) (s' : State) (c' : Call) (o' : Outputs) : Type 0 where
  pub comes : Comes m text (finish (rooms_of o) m (ending_of code k) line (frame_of m text c) (shared_of s o)) s o line r s' c' o'

-- r is what the expansion comes to from the next code line of the call c on, whoever its callers are
pub record Steps (m : Marks) (text : Bytes) (c : Call) (s : State) (o : Outputs) (line : Bytes) (r : Answer) (s' : State) (c' : Call) (o' : Outputs) : Type 0 where
  pub follows : Follows text s o s' o'
  pub less : is_left r ≡ false → s'.fuel < s.fuel
  pub stays : is_left r ≡ false → Open m text c'
  pub short : length line ≤ line_most
  pub same : (t : Loaded) → t.marks ≡ m → (fs : List Frame) (y : Tally)
      → comes_to s.fuel (rooms_of o) t (running (state_of text none (frame_of m text c ∷ fs) y s o)) ≡ comes_to s'.fuel (rooms_of o) t (next_of m text fs y r c' s' line o')
