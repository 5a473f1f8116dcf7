-- How many beginnings templates have. A beginning has at least one element, and a template's end counts as one.
use Rattle.std.specs.Prelude.{◌≡◌, true, false, List, [], ◌∷◌, ℕ, zero, suc, ◌+◌, ◌-◌, ◌≤◌, ◌<◌, max, eqb, length, get_or, take}
use Rattle.model.specs.Text.{Bytes}
use Rattle.model.specs.Load.{Macro, templates, met, fresh}

-- how many elements s and t have in common at their beginnings
unfoldable pub common : Bytes → Bytes → ℕ
common [] [] = 1
common [] (y ∷ t) = 0
common (x ∷ s) [] = 0
common (x ∷ s) (y ∷ t) = elim (eqb x y) [ true ↦ suc (common s t) | false ↦ 0 ]

-- the most that s has in common with one of ts
unfoldable pub longest : Bytes → List Bytes → ℕ
longest s [] = 0
longest s (t ∷ ts) = max (common s t) (longest s ts)

-- how many elements template k has in common with an earlier one, and how many of its beginnings are new
abbrev pub known : List Bytes → ℕ → ℕ
known ts k = longest (get_or ts k []) (take k ts)

abbrev pub added : List Bytes → ℕ → ℕ
added ts k = suc (length (get_or ts k [])) - known ts k

unfoldable pub sum : (ℕ → ℕ) → ℕ → ℕ
sum g zero = 0
sum g (suc n) = sum g n + g n

-- how many beginnings the templates have
abbrev pub beginnings : List Bytes → ℕ
beginnings ts = sum (added ts) (length ts)

-- r is how many beginnings the template c has that none of ts has: 0 where c is one of them
pub record Counted (ts : List Bytes) (c : Bytes) (r : ℕ) : Type 0 where
  pub before : r ≡ 0 → (ms : List Macro) → templates ms ≡ ts → met c ms ≡ true
  pub anew : 0 < r → (ms : List Macro) → templates ms ≡ ts → met c ms ≡ false
  pub count : 0 < r → (ms : List Macro) → templates ms ≡ ts → fresh [] c ms ≡ r
  pub most : r ≤ suc (length c)
