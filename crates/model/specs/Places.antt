-- Fitting a line (document 02, tickets 3 and 5): the search of the templates' tree that takes up no place twice, the places that it takes up, and the
-- bytes that it reads where it looks for the next atom.
use Rattle.std.specs.Prelude.{◌≡◌, Bool, true, false, ◌&&◌, List, [], ◌∷◌, ◌++◌, ℕ, zero, suc, ◌+◌, eqb, length, get_or}
use Rattle.std.proofs.Math.Option.{Option, none, some}
use Rattle.model.specs.declared.Marks.{Marks}
use Rattle.model.specs.Text.{Bytes}
use Rattle.model.specs.Reading.{atom}
use Rattle.model.specs.Parts.{Elem, lit, hole, stop, elems, ReadingPart, byte, piece}

-- ---- what is found

-- at a place: the rest of the piece that is open there (empty where none is), the parts that follow it, and the node of the
-- template's end
pub record Found : Type 0 where
  pub rest : Bytes
  pub parts : List ReadingPart
  pub node : ℕ

-- the template ends at the node; 0 is none
abbrev pub end_at : ℕ → Option Found
end_at zero = none
end_at (suc j) = some (record { rest = []; parts = []; node = suc j })

-- a literal byte, and then what is found
abbrev pub with_byte : ℕ → Option Found → Option Found
with_byte b none = none
with_byte b (some f) = some (record { rest = []; parts = byte b ∷ f.parts; node = f.node })

-- a piece that starts here, and then what is found
abbrev pub piece_found : Option Found → Option Found
piece_found none = none
piece_found (some f) = some (record { rest = []; parts = piece f.rest ∷ f.parts; node = f.node })

-- an atom more in the open piece, and then what is found
abbrev pub with_atom : Bytes → Option Found → Option Found
with_atom a none = none
with_atom a (some f) = some (record { rest = a ++ f.rest; parts = f.parts; node = f.node })

-- ---- places

-- a place is a node of the tree together with a position in the line
pub record Place : Type 0 where
  pub node : ℕ
  pub at : ℕ

-- the place of node i and position p is one of these
unfoldable pub is_in : ℕ → ℕ → List Place → Bool
is_in i p [] = false
is_in i p (x ∷ xs) = elim (eqb x.node i && eqb x.at p) [ true ↦ true | false ↦ is_in i p xs ]

-- what trying a place comes to: what is found, the dead places that are marked then (each was found to lead nowhere), the places that were
-- taken up for it, the latest last, and how many bytes were read where the next atom was looked for
pub record Tried : Type 0 where
  pub found : Option Found
  pub dead : List Place
  pub taken : List Place
  pub bytes : ℕ

-- nothing is taken up
abbrev pub idle : List Place → Tried
idle ds = record { found = none; dead = ds; taken = []; bytes = 0 }

-- what is found, as a part of what is found before it
abbrev pub within : (Option Found → Option Found) → Tried → Tried
within f t = record { found = f t.found; dead = t.dead; taken = t.taken; bytes = t.bytes }

-- a, and if that leads nowhere the next
abbrev pub or_try : Tried → (List Place → Tried) → Tried
or_try a next = elim a.found [
  | some f ↦ a
  | none ↦ let b : Tried = next a.dead in record { found = b.found; dead = b.dead; taken = a.taken ++ b.taken; bytes = a.bytes + b.bytes }
]

-- the place x is taken up, and marked if it leads nowhere
abbrev pub take_up : Place → Tried → Tried
take_up x t = record {
  found = t.found;
  dead = elim t.found [ some f ↦ t.dead | none ↦ x ∷ t.dead ];
  taken = x ∷ t.taken;
  bytes = t.bytes;
}

-- a look that reads n bytes, and then what follows
abbrev pub after_look : ℕ → Tried → Tried
after_look n t = record { found = t.found; dead = t.dead; taken = t.taken; bytes = n + t.bytes }

-- ---- the search

-- a child, where there is one: 0 is none
abbrev pub try_child : (ℕ → Tried) → ℕ → List Place → Tried
try_child f zero ds = idle ds
try_child f (suc j) ds = f (suc j)

-- the child where the template ends, at position p; nothing follows it
abbrev pub try_end : ℕ → ℕ → List Place → Tried
try_end zero p ds = idle ds
try_end (suc j) p ds = record { found = end_at (suc j); dead = ds; taken = record { node = suc j; at = p } ∷ []; bytes = 0 }

-- a look for the next atom, where s is left of the line, reads the atom; where there is none, the right bracket that stands there, or all
-- that is left from a left bracket without a partner on; and nothing at the line's end
unfoldable pub bytes_of_look : Marks → Bytes → ℕ
bytes_of_look m [] = 0
bytes_of_look m (b ∷ s) = elim (atom m (b ∷ s)) [
  | some r ↦ length r.0
  | none ↦ elim (eqb b m.right) [ true ↦ 1 | false ↦ length (b ∷ s) ]
]

-- past an atom, where there is one
abbrev pub try_past : (ℕ → Bytes → List Place → Tried) → ℕ → Option (Bytes × Bytes) → List Place → Tried
try_past f p none ds = idle ds
try_past f p (some r) ds = within (with_atom r.0) (f (p + length r.0) r.1 ds)

-- on a placeholder, that node past the next atom; a look reads its bytes whatever it leads to
abbrev pub try_atom : Marks → (ℕ → Bytes → List Place → Tried) → Bool → ℕ → Bytes → List Place → Tried
try_atom m f true p s ds = after_look (bytes_of_look m s) (try_past f p (atom m s) ds)
try_atom m f false p s ds = idle ds

-- the tree: `kid` gives the child of a node for an element, 0 where there is none
module _ (kid : ℕ → Elem → ℕ) where
  -- the child for the next byte, or for the line's end
  abbrev pub try_byte : (ℕ → ℕ → Bytes → List Place → Tried) → ℕ → ℕ → Bytes → List Place → Tried
  try_byte f i p [] ds = try_end (kid i stop) p ds
  try_byte f i p (b ∷ s) ds = within (with_byte b) (try_child (λ j. f j (p + 1) s ds) (kid i (lit b)) ds)

  -- the placeholder child there
  abbrev pub try_piece : (ℕ → ℕ → Bytes → List Place → Tried) → ℕ → ℕ → Bytes → List Place → Tried
  try_piece f i p s ds = within piece_found (try_child (λ j. f j p s ds) (kid i hole) ds)

-- and `holey` says whether a node is a placeholder's
module _ (m : Marks) (kid : ℕ → Elem → ℕ) (holey : ℕ → Bool) where
  -- the place of node i and position p, where s is left of the line and the places ds are marked. The first number is fuel
  unfoldable pub try_place : ℕ → ℕ → ℕ → Bytes → List Place → Tried
  try_place zero i p s ds = idle ds
  try_place (suc n) i p s ds =
      elim (is_in i p ds) [
        | true ↦ idle ds
        | false ↦
            take_up (record { node = i; at = p })
            (or_try (try_byte kid (try_place n) i p s ds)
            (λ ds. or_try (try_piece kid (try_place n) i p s ds)
            (λ ds. try_atom m (try_place n i) (holey i) p s ds)))
      ]

-- ---- the tree of templates

unfoldable pub same_elem : Elem → Elem → Bool
same_elem (lit a) (lit b) = eqb a b
same_elem (lit a) hole = false
same_elem (lit a) stop = false
same_elem hole (lit b) = false
same_elem hole hole = true
same_elem hole stop = false
same_elem stop (lit b) = false
same_elem stop hole = false
same_elem stop stop = true

unfoldable pub same_elems : List Elem → List Elem → Bool
same_elems [] [] = true
same_elems [] (y ∷ ys) = false
same_elems (x ∷ xs) [] = false
same_elems (x ∷ xs) (y ∷ ys) = elim (same_elem x y) [ true ↦ same_elems xs ys | false ↦ false ]

-- the number of the beginning b among bs, the first of which has number k; 0 where it is none of them
unfoldable pub number_from : ℕ → List Elem → List (List Elem) → ℕ
number_from k b [] = 0
number_from k b (x ∷ xs) = elim (same_elems b x) [ true ↦ k | false ↦ number_from (suc k) b xs ]

-- bs, with the beginnings of p ++ es that are longer than p and aren't there yet
unfoldable pub add_beginnings : List Elem → List Elem → List (List Elem) → List (List Elem)
add_beginnings p [] bs = bs
add_beginnings p (e ∷ es) bs =
    let q : List Elem = p ++ e ∷ [] in
    add_beginnings q es (elim (eqb (number_from 1 q bs) 0) [ true ↦ bs ++ q ∷ [] | false ↦ bs ])

unfoldable pub beginnings_from : Marks → List Bytes → List (List Elem) → List (List Elem)
beginnings_from m [] bs = bs
beginnings_from m (t ∷ ts) bs = beginnings_from m ts (add_beginnings [] (elems m t) bs)

-- the distinct non-empty beginnings of the templates, a template's end counting as one element, in the order in which they are met. They
-- are the nodes of the tree: node 0 is the root, and node k the k-th beginning
unfoldable pub beginnings : Marks → List Bytes → List (List Elem)
beginnings m ts = beginnings_from m ts []

-- the beginning at a node
unfoldable pub beginning_at : List (List Elem) → ℕ → List Elem
beginning_at bs zero = []
beginning_at bs (suc i) = get_or bs i []

-- the child of a node for an element, 0 where there is none
unfoldable pub child_in : List (List Elem) → ℕ → Elem → ℕ
child_in bs i e = number_from 1 (beginning_at bs i ++ e ∷ []) bs

unfoldable pub ends_in_hole : List Elem → Bool
ends_in_hole [] = false
ends_in_hole (e ∷ []) = same_elem e hole
ends_in_hole (e ∷ x ∷ xs) = ends_in_hole (x ∷ xs)

-- the node is a placeholder's
unfoldable pub holey_in : List (List Elem) → ℕ → Bool
holey_in bs i = ends_in_hole (beginning_at bs i)

-- how long the beginnings are together
unfoldable pub together : List (List Elem) → ℕ
together [] = 0
together (x ∷ xs) = length x + together xs

-- ---- fitting a line

-- the search of the templates' tree, from the root and the line's beginning on, with no place marked. No search goes deeper than all
-- beginnings and the line are long
unfoldable pub fitting : Marks → List Bytes → Bytes → Tried
fitting m ts line =
    let bs : List (List Elem) = beginnings m ts in
    try_place m (child_in bs) (holey_in bs) (suc (together bs + length line)) 0 0 line []

-- how many places are taken up
unfoldable pub places_taken : Marks → List Bytes → Bytes → ℕ
places_taken m ts line = length (fitting m ts line).taken

-- how many bytes are read where the next atom is looked for
unfoldable pub bytes_read : Marks → List Bytes → Bytes → ℕ
bytes_read m ts line = (fitting m ts line).bytes

-- each place is there once
unfoldable pub Once : List Place → Type 0
Once [] = Unit {0}
Once (x ∷ xs) = (is_in x.node x.at xs ≡ false) × Once xs
