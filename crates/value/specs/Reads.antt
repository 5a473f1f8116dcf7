-- What is read from the front of a text, as the definitions of model's Value have it: a value and the bytes after it.
use Rattle.std.specs.Prelude.{◌≡◌, List, ℕ, ◌<◌, length, pos, Option, Some, None}
use Rattle.std.proofs.Math.Option.{none, some}
use Rattle.model.specs.declared.Marks.{Marks}
use Rattle.model.specs.Store.{Store, find}
use Rattle.model.specs.Value.{value_fault, Read, read_fault, giving, number, checked, name_of, of_stored, value_of}
use Rattle.number.specs.Number.{Valued, number_of, valued_fault, InRange}
use Rattle.value.specs.declared.Parsed.{Parsed}

-- a value and what is left after it, or none
abbrev pub Parsing : Type 0
Parsing = Option Parsed

-- the value, and the bytes after it
abbrev pub read_of : Parsing → Read
read_of (Some p) = some (p.value, p.rest.now)
read_of None = none

-- and document 01's number for it: a failure is 15
abbrev pub parsed_fault : Parsing → ℕ
parsed_fault (Some p) = 0
parsed_fault None = 15

-- fewer than n bytes are left after a value
abbrev pub LeavesBelow : ℕ → Parsing → Type 0
LeavesBelow n (Some p) = length p.rest.now < n
LeavesBelow n None = Unit {0}

-- r is what f reads at every bound above μ, and leaves fewer than n bytes
pub record ReadsAbove (μ n : ℕ) (r : Parsing) (f : ℕ → Read) : Type 0 where
  pub is : (k : ℕ) → μ < k → read_of r ≡ f k
  pub number : (k : ℕ) → μ < k → parsed_fault r ≡ read_fault (f k)
  pub leaves : LeavesBelow n r

-- r is the value of the text s, with the names es
pub record Values (m : Marks) (es : Store) (s : List ℕ) (r : Valued) : Type 0 where
  pub is : value_of m es s ≡ number_of r
  pub number : valued_fault r ≡ value_fault (value_of m es s)
  pub fits : InRange r

-- an operand that is digits
abbrev pub numeral_at : List ℕ → Read
numeral_at s = giving (checked (pos (number 0 s).0)) (number 0 s).1

-- an operand that is a name
abbrev pub name_at : Marks → Store → List ℕ → Read
name_at m st s = giving (of_stored m (find (name_of m s).0 st)) (name_of m s).1
