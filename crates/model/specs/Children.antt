-- The children of a node of the templates' tree (document 02, ticket 6): the keys by which they stand in order, and the beginnings that there are.
use Rattle.std.specs.Prelude.{◌≡◌, true, false, List, [], ◌∷◌, ◌++◌, ℕ, suc, ◌<◌, eqb, length, get_or}
use Rattle.model.specs.Parts.{Elem, lit, hole, stop}

-- ---- keys: children stand in the order of their keys. A literal's key is its byte, and those of the end and of the placeholder come after
-- all bytes; they are the constants of src

abbrev pub end_key : ℕ
end_key = 256

abbrev pub placeholder_key : ℕ
placeholder_key = 257

-- the element of a key
unfoldable pub element_of : ℕ → Elem
element_of k = elim (eqb k end_key) [ true ↦ stop | false ↦ elim (eqb k placeholder_key) [ true ↦ hole | false ↦ lit k ] ]

-- ---- beginnings

-- the elements are those of one of the templates; each ends in `stop`
abbrev pub In : List (List Elem) → List Elem → Type 0
In ts es = (k : ℕ) × (k < length ts) × (get_or ts k [] ≡ es)

-- b is a beginning of one of the templates
abbrev pub Begins : List (List Elem) → List Elem → Type 0
Begins ts b = (es : List Elem) × In ts (b ++ es)

-- how many placeholders a beginning has
unfoldable pub holes_in : List Elem → ℕ
holes_in [] = 0
holes_in (lit b ∷ es) = holes_in es
holes_in (hole ∷ es) = suc (holes_in es)
holes_in (stop ∷ es) = holes_in es
