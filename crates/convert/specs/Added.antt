-- What a part added to a line that is built makes of the state, as the expansion has it.
use Rattle.std.specs.Prelude.{◌≡◌, ◌≤◌, length, Result}
use Rattle.faults.specs.declared.RunFault.{RunFault}
use Rattle.model.specs.Machine.{Shared, Building, Outputs}
use Rattle.state.specs.declared.State.{State}
use Rattle.state.specs.State.{shared_of}
use Rattle.call.specs.declared.Text.{Text}
use Rattle.call.specs.Call.{text_of}
use Rattle.call.specs.Line.{line_step}

-- t is s but for what is stored
pub record Keeps (s t : State) : Type 0 where
  pub symbols : t.symbols ≤ length t.store
  pub at : t.at ≡ s.at
  pub line : t.line ≡ s.line
  pub calls : t.calls ≡ s.calls
  pub written : t.written ≡ s.written
  pub second : t.second ≡ s.second
  pub events : t.events ≡ s.events
  pub fuel : t.fuel ≡ s.fuel

-- what a step of the expansion makes of the state s, whatever the outputs: the line is y, the state s', and r the answer
pub record Adds (step : Shared → Building) (s : State) (r : Result Unit RunFault) (y : Text) (s' : State) : Type 0 where
  pub is : (o : Outputs) → step (shared_of s o) ≡ line_step (text_of y) r (shared_of s' o)
  pub keeps : Keeps s s'

-- what a step that stores nothing makes, whatever the calls share
pub record Lengthens (step : Shared → Building) (r : Result Unit RunFault) (y : Text) : Type 0 where
  pub is : (w : Shared) → step w ≡ line_step (text_of y) r w
