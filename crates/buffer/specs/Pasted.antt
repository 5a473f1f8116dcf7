-- What a copy or a move does. A record, and not the bare equation: its parameters are read off it.
use Rattle.std.specs.Prelude.{◌≡◌, List, ℕ}
use Rattle.std.proofs.Math.Seq.{paste}

-- d' is d with the n bytes from offset at replaced by the first n of s
pub record Pasted (d : List ℕ) (at : ℕ) (s : List ℕ) (n : ℕ) (d' : List ℕ) : Type 0 where
  pub is : d' ≡ paste d at s n
