-- What a run leaves in the lent slices.
use Rattle.std.specs.Prelude.{◌≡◌}
use Rattle.model.specs.declared.Ran.{Ran}
use Rattle.model.specs.Text.{Bytes}
use Rattle.model.specs.Machine.{Result}
use Rattle.model.specs.Results.{ran_as}
use Rattle.model.specs.Printed.{end_row}
use Rattle.rendering.specs.Prints.{RoomFor, Prints}

-- r is the answer of the run x, with its outputs at the front of o and p and its report at that of u; the row that ends what is printed has room in o
pub record Leaves (x : Result) (o p u : Bytes) (r : Ran) (o' p' u' : Bytes) : Type 0 where
  pub is : r ≡ ran_as x
  pub prints : Prints o 0 x.output.first r.output o'
  pub writes : Prints p 0 x.output.second r.second p'
  pub reports : Prints u 0 x.report r.report u'
  pub room : RoomFor o' r.output (end_row r.number r.line r.events)
