-- What each of these ways to end a code line comes to. A leaf says nothing of what it does not touch: its contract holds for each such value, and for
-- each built line b. In each record c s o are the call, state and outputs before, r is the answer, and c' s' o' are those after.
use Rattle.std.specs.Prelude.{◌≡◌, Result, IfErr}
use Rattle.faults.specs.declared.RunFault.{RunFault}
use Rattle.model.specs.declared.Marks.{Marks}
use Rattle.model.specs.declared.Channel.{Channel}
use Rattle.model.specs.Text.{Bytes}
use Rattle.model.specs.Value.{value_of}
use Rattle.model.specs.Machine.{Outputs, param, write_layout, save_text, start_repeat}
use Rattle.state.specs.declared.State.{State}
use Rattle.state.specs.State.{shared_of, Sound}
use Rattle.call.specs.declared.Call.{Call}
use Rattle.call.specs.Call.{frame_of, Placed}
use Rattle.answer.specs.Answers.{goes_on, rooms_of}
use Rattle.answer.specs.Kept.{OnlyMoves, Comes}

-- F1 at the line's start
pub record WritesLayoutLine (m : Marks) (text : Bytes) (ch : Channel) (c : Call) (s : State) (o : Outputs) (r : Result Unit RunFault) (c' : Call) (s' : State) (o' : Outputs) : Type 0 where
  pub moves : OnlyMoves c (goes_on r) c'
  pub comes : (b : Bytes) → Sound text s o → Comes m text (write_layout (rooms_of o) m ch (frame_of m text c).next (frame_of m text c) (shared_of s o)) s o b (goes_on r) s' c' o'

-- F3
pub record Saves (c : Call) (s : State) (r : Result Unit RunFault) (s' : State) : Type 0 where
  pub comes : (m : Marks) (text : Bytes) (o : Outputs) (b : Bytes) → Placed text c → Sound text s o
      → Comes m text (save_text (param (frame_of m text c) 1) (param (frame_of m text c) 2) (frame_of m text c) (shared_of s o)) s o b (goes_on r) s' c o

-- F7
pub record Repeats (m : Marks) (text : Bytes) (c : Call) (line : Bytes) (s : State) (r : Result Unit RunFault) (c' : Call) : Type 0 where
  pub params : c'.params ≡ c.params
  pub kept : IfErr r (λ _. c' ≡ c)
  pub comes : (o : Outputs) (b : Bytes) → Placed text c → Sound text s o
      → Comes m text (start_repeat m (value_of m s.store line) (frame_of m text c) (shared_of s o)) s o b (goes_on r) s c' o
