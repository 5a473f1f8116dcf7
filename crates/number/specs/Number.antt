-- The value that an answer stands for, and what a step makes of two values.
use Rattle.std.specs.Prelude.{◌≡◌, List, ℕ, ◌+◌, ◌<◌, ◌≤◌, ℤ, neg_ℤ, ◌+ℤ◌, ◌-ℤ◌, ◌*ℤ◌, Option as Answered, Some, None}
use Rattle.std.proofs.Math.Option.{Option, none, some}
use Rattle.std.specs.Int.Signed.{mag}
use Rattle.std.specs.Int.{Width, w64}
use Rattle.model.specs.declared.Marks.{Marks}
use Rattle.model.specs.Limits.{largest}
use Rattle.model.specs.Text.{part}
use Rattle.model.specs.Value.{value_fault, checked, divided, written}
use Rattle.number.specs.declared.Step.{Step}
use Rattle.number.specs.declared.Step.TheVariants.{First, Negated, Plus, Minus, Times, Divide}

-- the width of a value, and its range: from minus `end` up to the number before it
abbrev pub width : Width
width = w64

abbrev pub end : ℕ
end = largest + 1

-- what the code answers: a value, or none
abbrev pub Valued : Type 0
Valued = Answered ℤ

-- the value of an answer
abbrev pub number_of : Valued → Option ℤ
number_of (Some z) = some z
number_of None = none

-- and document 01's number for it
abbrev pub valued_fault : Valued → ℕ
valued_fault (Some z) = value_fault (some z)
valued_fault None = value_fault none

-- `mag z` is n for n and for -(n + 1)
abbrev pub InRange : Valued → Type 0
InRange (Some z) = mag z < end
InRange None = Unit {0}

-- r is the answer for the value o
pub record Gives (r : Valued) (o : Option ℤ) : Type 0 where
  pub is : number_of r ≡ o
  pub number : valued_fault r ≡ value_fault o
  pub fits : InRange r

-- what a step makes of the value so far, a, and the next value, b
abbrev pub step_value : Step → ℤ → ℤ → Option ℤ
step_value First a b = some b
step_value Negated a b = checked (neg_ℤ b)
step_value Plus a b = checked (a +ℤ b)
step_value Minus a b = checked (a -ℤ b)
step_value Times a b = checked (a *ℤ b)
step_value Divide a b = divided a b

-- the value z in decimal is the first r bytes of out
pub record WritesValue (m : Marks) (z : ℤ) (r : ℕ) (out : List ℕ) : Type 0 where
  pub is : part out 0 r ≡ written m z
  pub few : r ≤ 21
