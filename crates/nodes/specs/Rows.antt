-- The row of nodes, and how a child is found in it.
use Rattle.std.specs.Prelude.{◌≡◌, Bool, true, false, List, ℕ, zero, suc, ◌+◌, ◌≤◌, ◌<◌, eqb, length, get_or, Option, IfSome}
use Rattle.std.specs.Option.{unwrap_or}
use Rattle.model.specs.Parts.{Elem}
use Rattle.model.specs.Places.{same_elem}
use Rattle.model.specs.Children.{placeholder_key, element_of}
use Rattle.nodes.specs.declared.Node.{Node}

-- a node of zeroes: what stands past the end of a row
abbrev pub no_node : Node
no_node = record { element = 0; first = 0; count = 0; template = 0; height = 0; holes = 0 }

-- the root has no element: the first number that is no key, a constant of src
abbrev pub root_key : ℕ
root_key = 258

-- the key of a node's element, its first child, how many children it has, its template's number
abbrev pub elem : List Node → ℕ → ℕ
elem rows i = (get_or rows i no_node).element

abbrev pub first_of : List Node → ℕ → ℕ
first_of rows i = (get_or rows i no_node).first

abbrev pub count_of : List Node → ℕ → ℕ
count_of rows i = (get_or rows i no_node).count

abbrev pub template_of : List Node → ℕ → ℕ
template_of rows i = (get_or rows i no_node).template

-- how many elements may follow a node
abbrev pub height : List Node → ℕ → ℕ
height rows i = (get_or rows i no_node).height

-- how many placeholders stand up to and with a node
abbrev pub holes : List Node → ℕ → ℕ
holes rows i = (get_or rows i no_node).holes

-- the first of the n nodes from j on whose element is e, 0 where there is none
unfoldable pub among : List Node → Elem → ℕ → ℕ → ℕ
among rows e j zero = 0
among rows e j (suc n) = elim (same_elem (element_of (elem rows j)) e) [ true ↦ j | false ↦ among rows e (suc j) n ]

-- the child of the node i for an element, 0 where there is none
abbrev pub kid : List Node → ℕ → Elem → ℕ
kid rows i e = among rows e (first_of rows i) (count_of rows i)

-- the node i is a placeholder's
abbrev pub holey : List Node → ℕ → Bool
holey rows i = eqb (elem rows i) placeholder_key

-- j is a child of i
abbrev pub Child : List Node → ℕ → ℕ → Type 0
Child rows i j = (first_of rows i ≤ j) × (j < first_of rows i + count_of rows i)

-- the children of i ascend by their keys
abbrev pub Ascending : List Node → ℕ → Type 0
Ascending rows i = (j l : ℕ) → Child rows i j → Child rows i l → j < l → elem rows j < elem rows l

-- and have the keys of elements, of which the placeholder's is the greatest
abbrev pub Keyed : List Node → ℕ → Type 0
Keyed rows i = (j : ℕ) → Child rows i j → elem rows j ≤ placeholder_key

-- what the look for a child of the node asks: the node and its children stand in the row, and these ascend up to the placeholder's key
pub record InRun (rows : List Node) (node : ℕ) : Type 0 where
  pub there : node < length rows
  pub in_row : first_of rows node + count_of rows node ≤ length rows
  pub ascending : Ascending rows node
  pub greatest : Keyed rows node

-- r is the child of the node for the element with key k, none where the definition has 0
pub record ChildFor (rows : List Node) (node k : ℕ) (r : Option ℕ) : Type 0 where
  pub is : unwrap_or r 0 ≡ kid rows node (element_of k)
  pub child : IfSome r (Child rows node)
  pub within : IfSome r (λ j. j < length rows)
