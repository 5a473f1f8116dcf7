-- The templates in the order of their keys: where a new one goes among them, and the runs of those that have one key at a place.
use Rattle.std.specs.Prelude.{◌≡◌, Bool, true, false, List, [], ◌∷◌, Option, Some, None, ℕ, ◌≤◌, ◌<◌, eqb, ltb, length, get_or}
use Rattle.model.specs.Text.{Bytes}
use Rattle.model.specs.Children.{end_key, placeholder_key}
use Rattle.templates.specs.Count.{common, Counted}
use Rattle.templates.specs.Keys.{byte_key}
use Rattle.templates.specs.declared.Found.{Found}

-- s is t or stands before it: where they first differ, s has the lesser key. p is the placeholder
unfoldable pub precedes : ℕ → Bytes → Bytes → Bool
precedes p [] [] = true
precedes p [] (y ∷ t) = ltb end_key (byte_key p y)
precedes p (x ∷ s) [] = ltb (byte_key p x) end_key
precedes p (x ∷ s) (y ∷ t) = elim (eqb x y) [ true ↦ precedes p s t | false ↦ ltb (byte_key p x) (byte_key p y) ]

-- the template at a place of the order
abbrev pub placed : List Bytes → (ℕ → ℕ) → ℕ → Bytes
placed ts order i = get_or ts (order i) []

-- the order has each template, and they ascend
pub record InOrder (p : ℕ) (ts : List Bytes) (order : ℕ → ℕ) : Type 0 where
  pub within : (i : ℕ) → i < length ts → order i < length ts
  pub every : (k : ℕ) → k < length ts → (i : ℕ) × (i < length ts) × (order i ≡ k)
  pub ascending : (i j : ℕ) → i < j → j < length ts → precedes p (placed ts order i) (placed ts order j) ≡ true

-- the template c goes to a place of the order
pub record GoesTo (p : ℕ) (ts : List Bytes) (order : ℕ → ℕ) (c : Bytes) (place : ℕ) : Type 0 where
  pub low : (i : ℕ) → i < place → precedes p (placed ts order i) c ≡ true
  pub high : (i : ℕ) → place ≤ i → i < length ts → precedes p c (placed ts order i) ≡ true

-- c has so many beginnings that none of ts has, and if it has any it goes to the place
pub record Finds (p : ℕ) (ts : List Bytes) (order : ℕ → ℕ) (c : Bytes) (place new : ℕ) : Type 0 where
  pub within : place ≤ length ts
  pub counted : Counted ts c new
  pub goes : 0 < new → GoesTo p ts order c place

-- the same, or c is one of ts
abbrev pub FindsPlace : ℕ → List Bytes → (ℕ → ℕ) → Bytes → Option Found → Type 0
FindsPlace p ts order c (Some f) = (0 < f.new) × Finds p ts order c f.place f.new
FindsPlace p ts order c None = Counted ts c 0

-- what the test of keys at place x says of s and t, where they first differ there
pub record Compared (p : ℕ) (s t : Bytes) (x : ℕ) (r : Bool) : Type 0 where
  pub less : r ≡ true → common s t ≡ x → x ≤ length s → precedes p s t ≡ true
  pub more : r ≡ false → common s t ≡ x → x ≤ length s → precedes p t s ≡ true

-- the places of the order from `from` on, before `end`, whose templates have this key at place d; the next one before `to` has another. `who` is the
-- first of these templates in the text. f has the keys of the templates
pub record TakesRun (f : ℕ → ℕ → ℕ) (order : ℕ → ℕ) (from to d key who end : ℕ) : Type 0 where
  pub longer : from < end
  pub within : end ≤ to
  pub small : key ≤ placeholder_key
  pub same : (i : ℕ) → from ≤ i → i < end → f (order i) d ≡ key
  pub stops : end < to → ¬ (f (order end) d ≡ key)
  pub there : (i : ℕ) × (from ≤ i) × (i < end) × (order i ≡ who)
  pub first : (i : ℕ) → from ≤ i → i < end → who ≤ order i
