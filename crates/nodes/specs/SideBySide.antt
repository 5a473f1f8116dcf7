-- The one fact about a row of nodes (document 02, ticket 6): each node's literal children stand in one run of the row, ascending by byte, then
-- its end, then its placeholder child, and they are exactly document 01's. Readings, and the counts of places and bytes, rest on this fact and on
-- nothing else about the row.
use Rattle.std.specs.Prelude.{◌≡◌, List, [], ◌∷◌, ◌++◌, map, ℕ, suc, ◌+◌, ◌≤◌, ◌<◌, length, get_or, take}
use Rattle.model.specs.Limits.{line_most, placeholders_most}
use Rattle.model.specs.declared.Marks.{Marks}
use Rattle.model.specs.Text.{Bytes}
use Rattle.model.specs.Load.{Loaded, templates, nodes}
use Rattle.model.specs.Parts.{Elem, elems}
use Rattle.model.specs.Children.{end_key, element_of, Begins, holes_in}
use Rattle.nodes.specs.declared.Node.{Node}
use Rattle.nodes.specs.Rows.{root_key, elem, first_of, count_of, template_of, height, holes, Child, Ascending, Keyed}

-- of a node i; `pre` has the beginning at each node, and ts the elements of the templates
module _ (rows : List Node) (ts : List (List Elem)) (pre : ℕ → List Elem) (i : ℕ) where
  -- its children are a run of the row, after it, and ascend by their keys, of which the placeholder's is the greatest; each has a beginning of the
  -- templates that is longer by the child's element, and every such beginning has its child
  pub record Children : Type 0 where
    pub in_row : first_of rows i + count_of rows i ≤ length rows
    pub after : (j : ℕ) → Child rows i j → i < j
    pub ascending : Ascending rows i
    pub greatest : Keyed rows i
    pub each : (j : ℕ) → Child rows i j → (pre j ≡ pre i ++ element_of (elem rows j) ∷ []) × Begins ts (pre j)
    pub every : (e : Elem) → Begins ts (pre i ++ e ∷ []) → (j : ℕ) × Child rows i j × (element_of (elem rows j) ≡ e)

  -- its record says how many elements may follow, how many placeholders its beginning has, nine at most, and where a template ends which one
  pub record Says : Type 0 where
    pub height : height rows i + length (pre i) ≡ suc line_most
    pub nine : holes rows i ≤ placeholders_most
    pub holes : holes rows i ≡ holes_in (pre i)
    pub template : elem rows i ≡ end_key → (template_of rows i < length ts) × (get_or ts (template_of rows i) [] ≡ pre i)

-- the rows are the tree of the templates ts: the root has the empty beginning, every other node is a child, and no two have one beginning
pub record SideBySide (m : Marks) (ts : List Bytes) (rows : List Node) : Type 0 where
  pub pre : ℕ → List Elem
  pub some_node : 0 < length rows
  pub root : (pre 0 ≡ []) × (elem rows 0 ≡ root_key)
  pub children : (i : ℕ) → i < length rows → Children rows (map (elems m) ts) pre i
  pub says : (i : ℕ) → i < length rows → Says rows (map (elems m) ts) pre i
  pub parent : (j : ℕ) → 0 < j → j < length rows → (i : ℕ) × (i < j) × Child rows i j
  pub apart : (i j : ℕ) → i < j → j < length rows → ¬ (pre i ≡ pre j)

-- the first `made` nodes of a row are such a tree
pub record Stands (row : List Node) (made : ℕ) : Type 0 where
  pub within : made ≤ length row
  pub marks : Marks
  pub templates : List Bytes
  pub tree : SideBySide marks templates (take made row)

-- the tree of a loaded text stands at the front of the row, and has the nodes that document 01 counts
pub record HoldsTree (t : Loaded) (row : List Node) : Type 0 where
  pub within : nodes t.macros ≤ length row
  pub tree : SideBySide t.marks (templates t.macros) (take (nodes t.macros) row)
