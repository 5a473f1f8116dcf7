-- What a part added to a line that is built comes to.
use Rattle.std.specs.Prelude.{◌≡◌, Result, Ok, Err}
use Rattle.faults.specs.declared.RunFault.{RunFault}
use Rattle.faults.specs.Numbers.{run_number}
use Rattle.model.specs.Text.{Bytes}
use Rattle.model.specs.Machine.{Shared, Building, built, failed, add}
use Rattle.call.specs.declared.Text.{Text}
use Rattle.call.specs.Call.{text_of}

-- the line that is built, or the number of the fault that ends the run
unfoldable pub line_step : Bytes → Result Unit RunFault → Shared → Building
line_step line (Ok _) w = built line w
line_step line (Err e) w = failed (run_number e) w

-- a part comes at the end of a line, which stays as it was where there is no room
pub record Appends (x : Text) (s : Bytes) (r : Result Unit RunFault) (y : Text) : Type 0 where
  pub is : (w : Shared) → add (text_of x) s w ≡ line_step (text_of y) r w
