-- Bytes that come after others.
use Rattle.std.specs.Prelude.{◌++◌, ℕ, ◌+◌, take}
use Rattle.model.specs.Text.{Bytes}
use Rattle.buffer.specs.Written.{Written}

-- the n bytes of s come after the first w of o
pub record AddsAt (o : Bytes) (w : ℕ) (s : Bytes) (n : ℕ) (o' : Bytes) : Type 0 where
  pub is : Written o (take w o ++ s) (w + n) o'
