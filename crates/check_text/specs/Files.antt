-- The rows of files. No contract can say what a file holds: the rows are those of some files, with their names and texts.
use Rattle.std.specs.Prelude.{◌≡◌, List, ℕ, ◌≤◌, length, take}
use Rattle.model.specs.Text.{Bytes}
use Rattle.model.specs.Results.{check_text}
use Rattle.model.specs.Printed.{check_row, check_prints}
use Rattle.rendering.specs.Prints.{Prints}

-- the row of a file comes after the first w bytes, and ends at r
pub record AddsFile (o : Bytes) (w r : ℕ) (o' : Bytes) : Type 0 where
  pub name : Bytes
  pub text : Bytes
  pub prints : Prints o w (check_row name (check_text 2048 text)) r o'

-- the first w bytes are what check_text prints for n files
pub record HasFiles (n : ℕ) (o : Bytes) (w : ℕ) : Type 0 where
  pub files : List (Bytes × Bytes)
  pub count : length files ≡ n
  pub is : take w o ≡ check_prints files
  pub fits : w ≤ length o
