-- A row of bits, eight to a byte: the bit with number x is bit x % 8 of byte x / 8.
use Rattle.std.specs.Prelude.{◌≡◌, Bool, true, false, List, ℕ, ◌+◌, ◌/◌, ◌%◌, ◌^◌, ◌≤◌, ◌<◌, eqb, get_or}

-- whether a number has the k-th bit
unfoldable pub bit_of : ℕ → ℕ → Bool
bit_of b k = eqb (b / 2 ^ k % 2) 1

-- the bit with number x
unfoldable pub bit : List ℕ → ℕ → Bool
bit row x = bit_of (get_or row (x / 8) 0) (x % 8)

-- row' is row with the bit x besides: every other bit is as it was
pub record AddsBit (row row' : List ℕ) (x : ℕ) : Type 0 where
  pub here : bit row' x ≡ true
  pub other : (y : ℕ) → ¬ (y ≡ x) → bit row' y ≡ bit row y

-- row' is row without the bits below n; the bytes that have none of these are as they were
pub record ClearsBits (row row' : List ℕ) (n : ℕ) : Type 0 where
  pub none : (x : ℕ) → x < n → bit row' x ≡ false
  pub kept : (i : ℕ) → (n + 7) / 8 ≤ i → get_or row' i 0 ≡ get_or row i 0
