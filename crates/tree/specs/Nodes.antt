-- The nodes of a tree that is being built, breadth first.
use Rattle.std.specs.Prelude.{◌≡◌, ◌⊎◌, List, [], ℕ, suc, ◌+◌, ◌-◌, ◌≤◌, ◌<◌, eqb, length, get_or}
use Rattle.nodes.specs.declared.Node.{Node}
use Rattle.nodes.specs.Rows.{root_key, elem, first_of, count_of, template_of, height, holes}
use Rattle.model.specs.Text.{Bytes}
use Rattle.model.specs.Children.{end_key, placeholder_key}
use Rattle.templates.specs.Keys.{Smalls, Share, one, cnt, holed, keys}
use Rattle.templates.specs.Count.{beginnings}

-- the fields of nodes: the template, the height, the element, how many placeholders, the first child, how many children
pub record Columns : Type 0 where
  pub template : ℕ → ℕ
  pub height : ℕ → ℕ
  pub element : ℕ → ℕ
  pub holes : ℕ → ℕ
  pub first : ℕ → ℕ
  pub number : ℕ → ℕ

abbrev pub columns : List Node → Columns
columns rows = record {
  template = λ j. template_of rows j;
  height = λ j. height rows j;
  element = λ j. elem rows j;
  holes = λ j. holes rows j;
  first = λ j. first_of rows j;
  number = λ j. count_of rows j;
}

-- of two nodes, the template of the first has the lesser key at place d
abbrev pub Lesser : (ℕ → ℕ → ℕ) → Columns → ℕ → ℕ → ℕ → Type 0
Lesser f N d i j = f (N.template i) d < f (N.template j) d

module _ (f : ℕ → ℕ → ℕ) (len : ℕ → ℕ) (n : ℕ) where
  -- a node other than the root: the first template that has its beginning, t; its height h, its element's key e, how many
  -- placeholders its beginning has, o. Its depth is 201 - h
  pub record IsNode (t h e o : ℕ) : Type 0 where
    pub known : t < n
    pub deep : h < 201
    pub element : e ≡ f t (200 - h)
    pub first : (m : ℕ) → m < t → Share f m t (201 - h) → ⊥
    pub live : 200 - h ≤ len t
    pub placed : o ≡ cnt (holed f t) (201 - h)

  -- the nodes from F up to c are the children of a node of template t and height h for its keys below low, ascending
  pub record Run (N : Columns) (t h F c low : ℕ) : Type 0 where
    pub kid : (j : ℕ) → F ≤ j → j < c → Share f (N.template j) t (201 - h) × (N.height j + 1 ≡ h) × (f (N.template j) (201 - h) < low)
    pub asc : (i j : ℕ) → F ≤ i → i < j → j < c → Lesser f N (201 - h) i j
    pub full : (k : ℕ) → k < n → Share f k t (201 - h) → f k (201 - h) < low → (j : ℕ) × (F ≤ j) × (j < c) × (f (N.template j) (201 - h) ≡ f k (201 - h))

  -- node p has its children
  pub record Done (N : Columns) (p c : ℕ) : Type 0 where
    pub in_row : N.first p + N.number p ≤ c
    pub after : p < N.first p
    pub none : N.element p ≡ end_key → N.number p ≡ 0
    pub run : (N.element p ≡ end_key → ⊥) → Run N (N.template p) (N.height p) (N.first p) (N.first p + N.number p) 258

  -- c nodes are made, those below i have their children, and i has those from F on, for its keys below low
  pub record Half (N : Columns) (i c F low : ℕ) : Type 0 where
    pub begun : i ≤ c
    pub some_node : 0 < c
    pub root : (N.template 0 ≡ 0) × (N.height 0 ≡ 201) × (N.element 0 ≡ root_key) × (N.holes 0 ≡ 0)
    pub node : (j : ℕ) → 0 < j → j < c → IsNode (N.template j) (N.height j) (N.element j) (N.holes j)
    pub done : (p : ℕ) → p < i → Done N p c
    pub parent : (j : ℕ) → 0 < j → j < c → ((p : ℕ) × (p < i) × (N.first p ≤ j) × (j < N.first p + N.number p)) ⊎ (F ≤ j)
    pub distinct : (j l : ℕ) → j < l → l < c → N.template j ≡ N.template l → N.height j ≡ N.height l → ⊥
    pub from : F ≤ c
    pub run : Run N (N.template i) (N.height i) F c low

  -- the nodes from i up to c wait for their children: where these will be said to stand, a node has the run of the templates' order that has
  -- just the templates with its beginning
  pub record Waiting (N : Columns) (order : ℕ → ℕ) (i c : ℕ) : Type 0 where
    pub within : (j : ℕ) → i ≤ j → j < c → N.first j + N.number j ≤ n
    pub shared : (j q : ℕ) → i ≤ j → j < c → N.first j ≤ q → q < N.first j + N.number j → Share f (order q) (N.template j) (201 - N.height j)
    pub stands : (j q : ℕ) → i ≤ j → j < c → q < n → Share f (order q) (N.template j) (201 - N.height j) → (N.first j ≤ q) × (q < N.first j + N.number j)

module _ (p : ℕ) (ts : List Bytes) (order : ℕ → ℕ) (rows : List Node) (i c : ℕ) where
  -- c nodes are made, and those below i have their children
  pub record Made : Type 0 where
    pub bytes : Smalls ts
    pub half : Half (keys p ts) (λ k. length (get_or ts k [])) (length ts) (columns rows) i c c 0
    pub waiting : Waiting (keys p ts) (λ k. length (get_or ts k [])) (length ts) (columns rows) order i c

  -- and the children of i stand from F on
  pub record Filled (F : ℕ) : Type 0 where
    pub bytes : Smalls ts
    pub more : F ≤ c
    pub within : c ≤ suc (beginnings ts)
    pub half : Half (keys p ts) (λ k. length (get_or ts k [])) (length ts) (columns rows) i c F 258
    pub waiting : Waiting (keys p ts) (λ k. length (get_or ts k [])) (length ts) (columns rows) order (i + 1) c
    pub open_node : elem rows i ≡ end_key → ⊥

-- a node with its children, so many from `first` on
abbrev pub with_kids : Node → ℕ → ℕ → Node
with_kids n first count = record { element = n.element; first = first; count = count; template = n.template; height = n.height; holes = n.holes }

-- the node for a run of templates that have a key after a node's beginning; it waits with their places in the order, from `from` up to `end`
abbrev pub below : Node → (key template from end : ℕ) → Node
below n key template from end = record { element = key; first = from; count = end - from; template = template; height = n.height - 1; holes = n.holes + one (eqb key placeholder_key) }

-- the root: no element of a template, with room for 200 elements and the end. It waits with all n templates
abbrev pub root_node : ℕ → Node
root_node n = record { element = root_key; first = 0; count = n; template = 0; height = 201; holes = 0 }
