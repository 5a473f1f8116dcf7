-- The tests of lent rows, and of a run's fuel and rooms.
use Rattle.std.specs.Prelude.{◌≡◌, Bool, false, ◌||◌, ℕ, ◌≤◌}
use Rattle.model.specs.Limits.{nodes_most, store_least, dead_least, report_least, fuel_most}
use Rattle.model.specs.Results.{short_row, short_dead, illegal}

-- whether a row of nodes or a row of dead places is too short
pub record TestsRows (rows dead : ℕ) (r : Bool) : Type 0 where
  pub is : r ≡ (short_row rows || short_dead dead)
  pub nodes : r ≡ false → nodes_most ≤ rows
  pub places : r ≡ false → dead_least ≤ dead

-- whether fuel and rooms are illegal
pub record TestsRooms (fuel rows dead store report : ℕ) (r : Bool) : Type 0 where
  pub is : r ≡ illegal fuel rows dead store report
  pub few : r ≡ false → fuel ≤ fuel_most
  pub nodes : r ≡ false → nodes_most ≤ rows
  pub places : r ≡ false → dead_least ≤ dead
  pub room : r ≡ false → store_least ≤ store
  pub reports : r ≡ false → report_least ≤ report
