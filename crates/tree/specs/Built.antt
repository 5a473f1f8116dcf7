-- What the builder asks and gives.
use Rattle.std.specs.Prelude.{◌≡◌, List, [], ℕ, suc, ◌≤◌, ◌<◌, length, get_or, take}
use Rattle.model.specs.Limits.{line_most, macros_most}
use Rattle.model.specs.declared.Marks.{Marks}
use Rattle.model.specs.Text.{Bytes}
use Rattle.model.specs.Load.{count}
use Rattle.nodes.specs.declared.Node.{Node}
use Rattle.nodes.specs.SideBySide.{SideBySide}
use Rattle.templates.specs.declared.Ordered.{Ordered}
use Rattle.templates.specs.Count.{beginnings}
use Rattle.templates.specs.Listed.{templates_of, order_of}
use Rattle.tree.specs.Nodes.{Made}

-- the templates are few, short and of at most nine placeholders p, and the row has room for their tree
pub record ReadyToBuild (p : ℕ) (ts : List Bytes) (rows : List Node) : Type 0 where
  pub few : length ts ≤ macros_most
  pub short : (k : ℕ) → length (get_or ts k []) ≤ line_most
  pub nine : (k : ℕ) → count p (get_or ts k []) ≤ 9
  pub room : suc (beginnings ts) ≤ length rows
  pub small : suc (beginnings ts) < 65536

-- c nodes are made, no more than the root and one for each beginning of the templates ts, and those below i have their children
pub record NodesMade (p : ℕ) (ts : List Bytes) (order : ℕ → ℕ) (rows : List Node) (i c : ℕ) : Type 0 where
  pub within : c ≤ suc (beginnings ts)
  pub made : Made p ts order rows i c

-- `made` nodes are made of the tree of templates in their order, which can be built in the row, and node i is the next to be given its children
pub record NextNode (o : Ordered) (rows : List Node) (i made : ℕ) : Type 0 where
  pub ready : ReadyToBuild o.mark (templates_of o) rows
  pub next : i < made
  pub grown : NodesMade o.mark (templates_of o) (order_of o) rows i made

-- the rows are the tree of the templates ts, and there is one node for each of their beginnings, and the root
pub record Built (m : Marks) (ts : List Bytes) (rows : List Node) : Type 0 where
  pub tree : SideBySide m ts rows
  pub count : length rows ≡ suc (beginnings ts)

-- the first r nodes of the row are the tree of the templates ts, whatever marks there are beside the placeholder p
pub record Builds (p : ℕ) (ts : List Bytes) (rows : List Node) (r : ℕ) : Type 0 where
  pub within : r ≤ length rows
  pub built : (m : Marks) → m.placeholder ≡ p → Built m ts (take r rows)
