-- Numbers written in decimal.
use Rattle.std.specs.Prelude.{◌≡◌, List, ℕ, ◌≤◌}
use Rattle.model.specs.Text.{part}
use Rattle.model.specs.Store.{decimal}

-- n in decimal is the first r bytes of out
pub record Decimal (n r : ℕ) (out : List ℕ) : Type 0 where
  pub is : part out 0 r ≡ decimal n
  pub few : r ≤ 20
