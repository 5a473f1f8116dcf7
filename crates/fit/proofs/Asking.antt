-- A tree that stands in the row can be searched: what first_reading asks, for its callers.
use Rattle.std.proofs.Common.{ℕ, ◌≤◌, List, length, take, sym, subst, arith}
use lib.Seq.{take-length, length-take-le}
use Rattle.model.specs.Limits.{line_most, dead_least}
use Rattle.model.specs.declared.Marks.{Marks}
use Rattle.model.specs.Text.{Bytes}
use Rattle.nodes.specs.declared.Node.{Node}
use Rattle.nodes.specs.SideBySide.{SideBySide}
use Rattle.fit.specs.Chosen.{Fits, TreeAt}

pub can_fit : {m : Marks} {row : List Node} {count : ℕ} {ts : List Bytes} {dead line : Bytes} → TreeAt m row count ts → length line ≤ line_most → dead_least ≤ length dead
    → Fits row count dead line
can_fit {m} {ts = ts} t short room = record { stands = record { within = t.within; marks = m; templates = ts; tree = t.tree }; few = t.few; short = short; room = room }

-- a tree at the front of a row is the tree of just these nodes
pub tree_alone : {m : Marks} {row : List Node} {count : ℕ} {ts : List Bytes} → TreeAt m row count ts → TreeAt m (take count row) (length (take count row)) ts
tree_alone {m} {row} {count} {ts} t = record {
  within = omega arith;
  few = omega (arith, length-take-le count row t.within, t.few);
  tree = subst (SideBySide m ts) (sym (take-length (take count row))) t.tree;
  distinct = t.distinct;
  differ = t.differ;
}
