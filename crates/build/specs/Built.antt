-- What a line that is built stands for in the expansion.
use Rattle.std.specs.Prelude.{◌≡◌, true, Result, Ok, Err, IfOk}
use Rattle.faults.specs.declared.RunFault.{RunFault}
use Rattle.faults.specs.Numbers.{run_number}
use Rattle.model.specs.declared.Marks.{Marks}
use Rattle.model.specs.Text.{Bytes}
use Rattle.model.specs.Code.{parse, effect, effect_of}
use Rattle.model.specs.Machine.{Frame, Step, halts, add_part, finish, carry_out, Outputs, Rooms}
use Rattle.state.specs.declared.State.{State}
use Rattle.state.specs.State.{shared_of}
use Rattle.code.specs.declared.Part.{Part}
use Rattle.code.specs.declared.Ending.{Ending}
use Rattle.code.specs.Tokens.{part_of, ending_of, RangedPart, Ranged}
use Rattle.call.specs.declared.Text.{Text}
use Rattle.call.specs.declared.Call.{Call}
use Rattle.call.specs.Call.{text_of, frame_of}
use Rattle.convert.specs.Added.{Keeps, Adds}

-- a part has its numbers in range
pub record Ranges (p : Part) : Type 0 where
  pub is : RangedPart p

-- a part is added to the line x in the call c of whatever text: the line is y, the state s', and r the answer
pub record AddsPart (m : Marks) (c : Call) (p : Part) (x : Text) (s : State) (r : Result Unit RunFault) (y : Text) (s' : State) : Type 0 where
  pub adds : (text : Bytes) → Adds (λ w. add_part m (frame_of m text c) (part_of p) (text_of x) w) s r y s'

-- the code line's ending is done with the built line, or the number of the fault ends the run
unfoldable pub built_step : Rooms → Marks → Bytes → Frame → (line : Text) → Result Ending RunFault → State → (o : Outputs) → Step
built_step room m code f line (Ok k) s o = finish room m (ending_of code k) (text_of line) f (shared_of s o)
built_step room m code f line (Err e) s o = halts (run_number e) (shared_of s o)

-- r is what the code line builds in the call c of whatever text and outputs, with the line and the state s' after it
pub record Builds (m : Marks) (code : Bytes) (c : Call) (s : State) (line : Text) (r : Result Ending RunFault) (s' : State) : Type 0 where
  pub same : (text : Bytes) (room : Rooms) (o : Outputs) → carry_out room m (parse m true code) (frame_of m text c) (shared_of s o) ≡ built_step room m code (frame_of m text c) line r s' o
  pub keeps : Keeps s s'
  pub ranged : IfOk r (λ k. Ranged code k)
  pub effect : IfOk r (λ k. effect m code ≡ effect_of (ending_of code k))
