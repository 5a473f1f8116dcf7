-- A template as a stream of keys, from its end on that of the end.
use Rattle.std.specs.Prelude.{◌≡◌, Bool, true, false, List, [], ◌∷◌, ℕ, zero, suc, ◌+◌, ◌≤◌, ◌<◌, eqb, length, get_or}
use Rattle.model.specs.Text.{Bytes}
use Rattle.model.specs.Children.{end_key, placeholder_key}

-- a where the test holds, else b
abbrev pub pick : {A : Type 0} → Bool → A → A → A
pick true a b = a
pick false a b = b

-- bytes, and templates of bytes
abbrev pub AllBytes : Bytes → Type 0
AllBytes c = (i : ℕ) → get_or c i 0 < 256

abbrev pub Smalls : List Bytes → Type 0
Smalls ts = (k : ℕ) → AllBytes (get_or ts k [])

-- p is the placeholder
unfoldable pub byte_key : ℕ → ℕ → ℕ
byte_key p b = pick (eqb b p) placeholder_key b

-- the key at place x of a template
unfoldable pub key_of : ℕ → Bytes → ℕ → ℕ
key_of p [] x = end_key
key_of p (b ∷ c) zero = byte_key p b
key_of p (b ∷ c) (suc x) = key_of p c x

-- the same of template k
abbrev pub keys : ℕ → List Bytes → ℕ → ℕ → ℕ
keys p ts k x = key_of p (get_or ts k []) x

-- templates k and m have their first d elements in common
abbrev pub Share : (ℕ → ℕ → ℕ) → ℕ → ℕ → ℕ → Type 0
Share f k m d = (x : ℕ) → x < d → f k x ≡ f m x

-- how many x below n have p
abbrev pub one : Bool → ℕ
one true = 1
one false = 0

unfoldable pub cnt : (ℕ → Bool) → ℕ → ℕ
cnt p zero = 0
cnt p (suc x) = cnt p x + one (p x)

-- the element at place x of template k is a placeholder
abbrev pub holed : (ℕ → ℕ → ℕ) → ℕ → ℕ → Bool
holed f k x = eqb (f k x) placeholder_key

-- r is the key at place x of c
pub record Key (p : ℕ) (c : Bytes) (x r : ℕ) : Type 0 where
  pub is : r ≡ key_of p c x
  pub small : r ≤ placeholder_key
  pub byte : x < length c → get_or c x 0 < 256
