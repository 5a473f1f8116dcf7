-- A reading as one list of parts, the form in which a search of the templates' tree makes it. proofs/Parts shows that the first
-- reading in this form is the chosen one.
use Rattle.std.specs.Prelude.{◌≡◌, true, false, List, [], ◌∷◌, ◌++◌, ℕ, ◌<◌, eqb, length, get_or}
use Rattle.model.specs.declared.Marks.{Marks}
use Rattle.model.specs.Reading.{Pieces}
use Rattle.model.specs.Fitting.{Balanced}

-- an element of a template: a literal byte, a placeholder, or the template's end
pub data Elem : Type 0 where
  lit : ℕ → Elem
  hole : Elem
  stop : Elem

-- an element of a reading: a literal byte, or the piece that a placeholder stands for
pub data ReadingPart : Type 0 where
  byte : ℕ → ReadingPart
  piece : List ℕ → ReadingPart

-- the elements of a template
unfoldable pub elems : Marks → List ℕ → List Elem
elems m [] = stop ∷ []
elems m (b ∷ t) = elim (eqb b m.placeholder) [ true ↦ hole ∷ elems m t | false ↦ lit b ∷ elems m t ]

-- the literals and the pieces joined
abbrev pub text : List ReadingPart → List ℕ
text [] = []
text (byte b ∷ r) = b ∷ text r
text (piece p ∷ r) = p ++ text r

-- each piece is balanced
abbrev pub Good : Marks → List ReadingPart → Type 0
Good m [] = Unit {0}
Good m (byte b ∷ r) = Good m r
Good m (piece p ∷ r) = Balanced m p × Good m r

-- the elements of the template of which this is a reading
abbrev pub elements : List ReadingPart → List Elem
elements [] = stop ∷ []
elements (byte b ∷ r) = lit b ∷ elements r
elements (piece p ∷ r) = hole ∷ elements r

-- the pieces, in their order
abbrev pub pieces : List ReadingPart → Pieces
pieces [] = []
pieces (byte b ∷ r) = pieces r
pieces (piece p ∷ r) = p ∷ pieces r

-- the order, at the first element in which they differ
pub data Earlier : List ReadingPart → List ReadingPart → Type 0 where
  end-piece : (p : List ℕ) (r : List ReadingPart) → Earlier [] (piece p ∷ r)
  byte_piece : (b : ℕ) (p : List ℕ) (r s : List ReadingPart) → Earlier (byte b ∷ r) (piece p ∷ s)
  less_piece : (p q : List ℕ) (r s : List ReadingPart) → length p < length q → Earlier (piece p ∷ r) (piece q ∷ s)
  later : (x : ReadingPart) (r s : List ReadingPart) → Earlier r s → Earlier (x ∷ r) (x ∷ s)

-- a reading of the line by the template at place i of ts
pub record PartsRead (m : Marks) (ts : List (List ℕ)) (line : List ℕ) (i : ℕ) (r : List ReadingPart) : Type 0 where
  pub place : i < length ts
  pub template : elements r ≡ elems m (get_or ts i [])
  pub joined : text r ≡ line
  pub good : Good m r
