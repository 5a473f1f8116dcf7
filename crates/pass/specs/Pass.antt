-- What a pass of an iteration takes, as places in the line it goes over.
use Rattle.std.specs.Prelude.{◌≡◌, [], ◌∷◌, ℕ, ◌≤◌, ◌<◌, length, drop, Option, Some, None, Result, Ok, Err, IfOk, IfErr}
use Rattle.std.proofs.Math.Option as Math
use Rattle.std.proofs.Math.Option.{none, some}
use Rattle.faults.specs.declared.RunFault.{RunFault}
use Rattle.faults.specs.Numbers.{run_number}
use Rattle.model.specs.declared.Marks.{Marks}
use Rattle.model.specs.Text.{Bytes, part}
use Rattle.model.specs.Machine.{Piece, pass_of, no_pass}
use Rattle.pass.specs.declared.Taken.{Taken}

-- a piece that no delimiter ended
abbrev pub up_to : ℕ → Taken
up_to end = record { end = end; delimiter = None; rest = end }

-- a delimiter as bytes
unfoldable pub delimiter_bytes : Option ℕ → Bytes
delimiter_bytes None = []
delimiter_bytes (Some d) = d ∷ []

-- the piece that an answer holds
unfoldable pub piece_at : Bytes → ℕ → Result Taken RunFault → Math.Option Piece
piece_at line at (Ok r) = some (record { piece = part line at r.end; delimiter = delimiter_bytes r.delimiter; rest = drop r.rest line })
piece_at line at (Err e) = none

-- a piece and the rest lie in the line, and something is taken where something is left
pub record TakenIn (line : Bytes) (at : ℕ) (r : Taken) : Type 0 where
  pub low : at ≤ r.end
  pub high : r.end ≤ r.rest
  pub within : r.rest ≤ length line
  pub ahead : at < length line → at < r.rest

-- what a pass takes from place `at` of the line on, or document 01's number where it finds nothing to take
pub record Takes (m : Marks) (line : Bytes) (at : ℕ) (list : Bytes) (r : Result Taken RunFault) : Type 0 where
  pub is : pass_of m list (drop at line) ≡ piece_at line at r
  pub bounds : IfOk r (λ t. TakenIn line at t)
  pub fault : IfErr r (λ e. run_number e ≡ no_pass list)

-- what a pass takes without a list, whatever the marks
pub record TakesCharacter (line : Bytes) (at : ℕ) (r : Result Taken RunFault) : Type 0 where
  pub takes : (m : Marks) → Takes m line at [] r
