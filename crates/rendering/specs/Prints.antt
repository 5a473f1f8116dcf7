-- Bytes that are added to a lent slice: the room for them, and where they end.
use Rattle.std.specs.Prelude.{◌≡◌, ℕ, ◌+◌, ◌≤◌, length}
use Rattle.model.specs.Text.{Bytes}
use Rattle.rendering.specs.Added.{AddsAt}

-- o has room for s after its first w bytes
pub record RoomFor (o : Bytes) (w : ℕ) (s : Bytes) : Type 0 where
  pub fits : w + length s ≤ length o

-- s comes after the first w bytes of o, and ends at r; every other byte is as it was
pub record Prints (o : Bytes) (w : ℕ) (s : Bytes) (r : ℕ) (o' : Bytes) : Type 0 where
  pub adds : AddsAt o w s (length s) o'
  pub ends : r ≡ w + length s
  pub long : length o' ≡ length o
  pub fits : r ≤ length o
