-- What a reading of a line is, and which comes first, in the words of document 01, "Fitting a line".
-- These are the statements; module Chosen shows that `chosen` of module Reading takes the first reading.
use Rattle.std.specs.Prelude.{◌≡◌, ◌⊎◌, List, [], ◌∷◌, ◌++◌, ℕ, ◌<◌, length, get_or}
use Rattle.model.specs.declared.Marks.{Marks}
use Rattle.model.specs.Reading.{Pieces}

-- a row of atoms: an atom is one byte that is no bracket, or a left bracket through its partner
pub data Balanced (m : Marks) : List ℕ → Type 0 where
  empty : Balanced m []
  byte-then : (b : ℕ) (p : List ℕ) → ¬ (b ≡ m.left) → ¬ (b ≡ m.right) → Balanced m p → Balanced m (b ∷ p)
  group_then : (p q : List ℕ) → Balanced m p → Balanced m q → Balanced m (m.left ∷ p ++ m.right ∷ q)

-- a template with a piece for each placeholder, such that literals and pieces joined give the line, each piece balanced
pub data Fits (m : Marks) : List ℕ → Pieces → List ℕ → Type 0 where
  end : Fits m [] [] []
  literal : (b : ℕ) (t : List ℕ) (ps : Pieces) (s : List ℕ) → ¬ (b ≡ m.placeholder) → Fits m t ps s → Fits m (b ∷ t) ps (b ∷ s)
  placeholder : (b : ℕ) (t p : List ℕ) (ps : Pieces) (s : List ℕ) → b ≡ m.placeholder → Balanced m p → Fits m t ps s → Fits m (b ∷ t) (p ∷ ps) (p ++ s)

-- the template t with pieces ps comes before u with qs. At the first element in which they differ, a template's end or a literal
-- comes before a placeholder, and a shorter piece before a longer
pub data Before (m : Marks) : List ℕ → Pieces → List ℕ → Pieces → Type 0 where
  end_first : (c : ℕ) (u q : List ℕ) (ps qs : Pieces) → c ≡ m.placeholder → Before m [] ps (c ∷ u) (q ∷ qs)
  literal_first : (b c : ℕ) (t u q : List ℕ) (ps qs : Pieces) → ¬ (b ≡ m.placeholder) → c ≡ m.placeholder → Before m (b ∷ t) ps (c ∷ u) (q ∷ qs)
  shorter : (b c : ℕ) (t u p q : List ℕ) (ps qs : Pieces) → b ≡ m.placeholder → c ≡ m.placeholder → length p < length q → Before m (b ∷ t) (p ∷ ps) (c ∷ u) (q ∷ qs)
  after_literal : (b : ℕ) (t u : List ℕ) (ps qs : Pieces) → ¬ (b ≡ m.placeholder) → Before m t ps u qs → Before m (b ∷ t) ps (b ∷ u) qs
  after_piece : (b : ℕ) (t u p : List ℕ) (ps qs : Pieces) → b ≡ m.placeholder → Before m t ps u qs → Before m (b ∷ t) (p ∷ ps) (b ∷ u) (p ∷ qs)

-- a reading of the line: the template at place i of ts, with the pieces ps
pub record Reads (m : Marks) (ts : List (List ℕ)) (line : List ℕ) (i : ℕ) (ps : Pieces) : Type 0 where
  pub place : i < length ts
  pub fits : Fits m (get_or ts i []) ps line

-- no two templates are equal
abbrev pub Distinct : List (List ℕ) → Type 0
Distinct ts = (i j : ℕ) → i < length ts → j < length ts → get_or ts i [] ≡ get_or ts j [] → i ≡ j

-- the first reading of the line: it comes before every other
pub record First (m : Marks) (ts : List (List ℕ)) (line : List ℕ) (i : ℕ) (ps : Pieces) : Type 0 where
  pub reads : Reads m ts line i ps
  pub before : (j : ℕ) (qs : Pieces) → Reads m ts line j qs → ((i ≡ j) × (ps ≡ qs)) ⊎ Before m (get_or ts i []) ps (get_or ts j []) qs
