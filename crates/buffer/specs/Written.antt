-- A list that is written from its front.
use Rattle.std.specs.Prelude.{◌≡◌, List, ◌++◌, ℕ, ◌≤◌, length, drop}

-- out is o with its first w bytes replaced by those of front: every byte of it, written or unchanged
pub record Written (o front : List ℕ) (w : ℕ) (out : List ℕ) : Type 0 where
  pub is : out ≡ front ++ drop w o
  pub long : length front ≡ w
  pub fits : w ≤ length o
