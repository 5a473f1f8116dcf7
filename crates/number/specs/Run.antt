-- Digits at the front of a text.
use Rattle.std.specs.Prelude.{◌≡◌, List, ℕ, ◌-◌, ◌^◌, ◌≤◌, min, pos}
use Rattle.model.specs.Value.{number, checked}
use Rattle.number.specs.Number.{Gives}
use Rattle.number.specs.declared.Run.{Run}
use Rattle.number.specs.declared.Numeral.{Numeral}

-- a number as far as 64 bits hold it: above `end` no sign brings it into range
abbrev pub saturated : ℕ → ℕ
saturated n = min n (2 ^ 64 - 1)

-- r is the run of digits that s begins with
pub record DigitRun (s : List ℕ) (r : Run) : Type 0 where
  pub amount : r.amount ≡ saturated (number 0 s).0
  pub rest : (number 0 s).1 ≡ r.rest.now

-- the digits that are left write the amount so far
pub record DigitsRead (s : List ℕ) (amount : ℕ) (left : List ℕ) : Type 0 where
  pub amounts : saturated (number amount left).0 ≡ saturated (number 0 s).0
  pub rest : (number amount left).1 ≡ (number 0 s).1
  pub small : amount ≤ 2 ^ 64 - 1

-- r is the number that the digits write with which s begins, and what is left after them
pub record Numerals (s : List ℕ) (r : Numeral) : Type 0 where
  pub gives : Gives r.value (checked (pos (number 0 s).0))
  pub rest : (number 0 s).1 ≡ r.rest.now
