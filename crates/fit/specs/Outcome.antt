-- What a search's answer and the lent notes say of what it comes to, and what the row of dead places holds then.
use Rattle.std.specs.Prelude.{◌≡◌, ℕ, suc, ◌+◌, ◌-◌, ◌*◌, ◌%◌, ◌^◌, ◌<◌, ◌≤◌, List, [], ◌∷◌, ◌++◌, map, length, take, drop, slice_set, Option as Answered, Some, None, IsSome, IfSome}
use Rattle.std.proofs.Math.Option.{Option, none, some}
use Rattle.model.specs.Limits.{line_most, nodes_most}
use Rattle.model.specs.declared.Marks.{Marks}
use Rattle.model.specs.Text.{Bytes}
use Rattle.model.specs.Parts.{Elem, lit, stop, ReadingPart, byte, piece, pieces}
use Rattle.model.specs.Places.{Found, Place, is_in, Tried, or_try, try_byte, try_piece, try_atom, try_place}
use Rattle.nodes.specs.declared.Node.{Node}
use Rattle.nodes.specs.Rows.{kid, holey, height, holes}
use Rattle.nodes.specs.SideBySide.{Stands}
use Rattle.places.specs.Bits.{bit}
use Rattle.fit.specs.declared.Notes.{Notes}

-- ---- the element that leads on

-- at the beginning of a row of bytes: the byte's, or the template's end
abbrev pub next_element : Bytes → Elem
next_element [] = stop
next_element (b ∷ s) = lit b

-- at a place of a line
abbrev pub element_at : Bytes → ℕ → Elem
element_at line at = next_element (drop at line)

-- ---- the notes

-- the starts and the lengths of the pieces, in a row
abbrev pub pieces_in : Notes → List ℕ
pieces_in ns = ns.starts ++ ns.lens

-- the same as words of 64 bits, which is all that a sum that may wrap tells
abbrev pub SameWord : ℕ → ℕ → Type 0
SameWord a b = a % 2 ^ 64 ≡ b % 2 ^ 64

-- so many places and bytes are counted
pub record Counted (places bytes : ℕ) (ns ns' : Notes) : Type 0 where
  pub more_places : SameWord ns'.places (ns.places + places)
  pub more_bytes : SameWord ns'.bytes (ns.bytes + bytes)

-- and the pieces stay
pub record Counts (places bytes : ℕ) (ns ns' : Notes) : Type 0 where
  pub counted : Counted places bytes ns ns'
  pub stay : pieces_in ns' ≡ pieces_in ns

-- with start and length of piece k
abbrev pub with_piece_at : (k start long : ℕ) → List ℕ → List ℕ
with_piece_at k s l ps = slice_set (slice_set ps k s) (k + 9) l

-- with those of the pieces from piece k on
unfoldable pub with_pieces : ℕ → (starts lens : List ℕ) → List ℕ → List ℕ
with_pieces k [] ls ps = ps
with_pieces k (s ∷ ss) [] ps = ps
with_pieces k (s ∷ ss) (l ∷ ls) ps = with_piece_at k s l (with_pieces (k + 1) ss ls ps)

-- piece k is stored, and no piece is open before it
pub record StoresPiece (k at : ℕ) (ns ns' : Notes) : Type 0 where
  pub stored : pieces_in ns' ≡ with_piece_at k at ns.rest (pieces_in ns)
  pub counted : Counted 0 0 ns ns'
  pub closed : ns'.rest ≡ 0

-- the open piece has n bytes more
pub record PassesAtom (n : ℕ) (ns ns' : Notes) : Type 0 where
  pub counts : Counts 0 0 ns ns'
  pub longer : ns'.rest ≡ ns.rest + n

-- a place is counted, and no piece is open
pub record EndsTemplate (ns ns' : Notes) : Type 0 where
  pub counts : Counts 1 0 ns ns'
  pub ended : ns'.rest ≡ 0

-- where the pieces of r start, if r starts at place `at`
unfoldable pub starts_in : ℕ → List ReadingPart → List ℕ
starts_in at [] = []
starts_in at (byte b ∷ r) = starts_in (at + 1) r
starts_in at (piece p ∷ r) = at ∷ starts_in (at + length p) r

-- how long they are
abbrev pub lens_in : List ReadingPart → List ℕ
lens_in r = map (λ p. length p) (pieces r)

-- ---- what an answer says

-- the answer r and the notes say what is found from place `at` on, with k pieces before; where nothing is found, no piece is stored
abbrev pub Told : (k at : ℕ) → Option Found → (r : Answered ℕ) (ns ns' : Notes) → Type 0
Told k at none r ns ns' = (r ≡ None) × (pieces_in ns' ≡ pieces_in ns)
Told k at (some f) r ns ns' = (r ≡ Some f.node) × (ns'.rest ≡ length f.rest)
    × (pieces_in ns' ≡ with_pieces k (starts_in (at + length f.rest) f.parts) (lens_in f.parts) (pieces_in ns))

-- and how many places were taken up, and bytes read
pub record Says (k at : ℕ) (t : Tried) (r : Answered ℕ) (ns ns' : Notes) : Type 0 where
  pub told : Told k at t.found r ns ns'
  pub counted : Counted (length t.taken) t.bytes ns ns'

-- ---- dead places

-- the bits of the row are the dead places ds of a tree of so many nodes, for positions below w
abbrev pub HoldsDead : (count w : ℕ) → Bytes → List Place → Type 0
HoldsDead count w row ds = (i p : ℕ) → i < count → p < w → bit row (i * w + p) ≡ is_in i p ds

-- ---- a search, or one of its steps

-- what lies in the lent rows before and after it: dead places, and notes
pub record Lent : Type 0 where
  pub dead : Bytes
  pub dead' : Bytes
  pub notes : Notes
  pub notes' : Notes

-- the answer from the node and place `at` on, for any fuel from b on and any dead places that the row holds, and those that it holds then
pub record Outcomes (rows : List Node) (line : Bytes) (node at b : ℕ) (step : ℕ → List Place → Tried) (x : Lent) (r : Answered ℕ) : Type 0 where
  pub says : (n : ℕ) → b ≤ n → (ds : List Place) → HoldsDead (length rows) (suc (length line)) x.dead ds
      → Says (holes rows node) at (step n ds) r x.notes x.notes' × HoldsDead (length rows) (suc (length line)) x.dead' (step n ds).dead
  pub short : IsSome r → x.notes'.rest ≤ length line - at
  pub there : IfSome r (λ j. j < length rows)

-- what is left of template and line
abbrev pub size_in : List Node → Bytes → ℕ → ℕ → ℕ
size_in rows line node at = height rows node + (length line - at)

-- the search, its three steps, the second and third together, and all of them; n is fuel
module _ (m : Marks) (rows : List Node) (line : Bytes) (node at n : ℕ) where
  abbrev pub place_tried : List Place → Tried
  place_tried ds = try_place m (kid rows) (holey rows) n node at (drop at line) ds

  abbrev pub byte_step : List Place → Tried
  byte_step ds = try_byte (kid rows) (try_place m (kid rows) (holey rows) n) node at (drop at line) ds

  abbrev pub piece_step : List Place → Tried
  piece_step ds = try_piece (kid rows) (try_place m (kid rows) (holey rows) n) node at (drop at line) ds

  abbrev pub atom_step : List Place → Tried
  atom_step ds = try_atom m (try_place m (kid rows) (holey rows) n node) (holey rows node) at (drop at line) ds

  abbrev pub later_step : List Place → Tried
  later_step ds = or_try (piece_step ds) atom_step

  abbrev pub all_steps : List Place → Tried
  all_steps ds = or_try (byte_step ds) later_step

-- ---- in a row at whose front a tree stands

-- the node is one of such a tree's, the place lies in the line, and the row `dead` has a bit for each place
pub record Asks (row : List Node) (dead line : Bytes) (node at : ℕ) : Type 0 where
  pub made : ℕ
  pub stands : Stands row made
  pub there : node < made
  pub low : at ≤ length line
  pub few : made ≤ nodes_most
  pub short : length line ≤ line_most
  pub room : made * suc (length line) ≤ 8 * length dead

-- the answer, whatever tree it is
pub record Comes (row : List Node) (line : Bytes) (node at : ℕ) (fuel : List Node → ℕ) (step : List Node → ℕ → List Place → Tried) (x : Lent) (r : Answered ℕ) : Type 0 where
  pub each : (made : ℕ) → Stands row made → node < made → Outcomes (take made row) line node at (fuel (take made row)) (step (take made row)) x r

-- of the search
pub record SearchedIn (m : Marks) (row : List Node) (line : Bytes) (node at : ℕ) (dead dead' : Bytes) (notes notes' : Notes) (r : Answered ℕ) : Type 0 where
  pub comes : Comes row line node at (λ rows. suc (size_in rows line node at)) (λ rows n. place_tried m rows line node at n)
      (record { dead = dead; dead' = dead'; notes = notes; notes' = notes' }) r

-- of its three steps
pub record ByteSearched (m : Marks) (row : List Node) (line : Bytes) (node at : ℕ) (dead dead' : Bytes) (notes notes' : Notes) (r : Answered ℕ) : Type 0 where
  pub comes : Comes row line node at (λ rows. size_in rows line node at) (λ rows n. byte_step m rows line node at n)
      (record { dead = dead; dead' = dead'; notes = notes; notes' = notes' }) r

pub record PieceSearched (m : Marks) (row : List Node) (line : Bytes) (node at : ℕ) (dead dead' : Bytes) (notes notes' : Notes) (r : Answered ℕ) : Type 0 where
  pub comes : Comes row line node at (λ rows. size_in rows line node at) (λ rows n. piece_step m rows line node at n)
      (record { dead = dead; dead' = dead'; notes = notes; notes' = notes' }) r

pub record AtomSearched (m : Marks) (row : List Node) (line : Bytes) (node at : ℕ) (dead dead' : Bytes) (notes notes' : Notes) (r : Answered ℕ) : Type 0 where
  pub comes : Comes row line node at (λ rows. size_in rows line node at) (λ rows n. atom_step m rows line node at n)
      (record { dead = dead; dead' = dead'; notes = notes; notes' = notes' }) r

-- and of all of them
pub record TakenUp (m : Marks) (row : List Node) (line : Bytes) (node at : ℕ) (dead dead' : Bytes) (notes notes' : Notes) (r : Answered ℕ) : Type 0 where
  pub comes : Comes row line node at (λ rows. size_in rows line node at) (λ rows n. all_steps m rows line node at n)
      (record { dead = dead; dead' = dead'; notes = notes; notes' = notes' }) r
