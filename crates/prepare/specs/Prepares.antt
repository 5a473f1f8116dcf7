-- A text that is ready for fitting its lines: loaded into a table of macros, with the tree of its templates in the row of nodes.
use Rattle.std.specs.Prelude.{◌≡◌, Result, Ok, Err, List, ◌≤◌, length}
use Rattle.model.specs.Limits.{text_most}
use Rattle.model.specs.Text.{Bytes}
use Rattle.model.specs.Load.{templates, load, refused}
use Rattle.model.specs.Sizes.{BodiesOk}
use Rattle.faults.specs.Numbers.{load_number}
use Rattle.nodes.specs.declared.Node.{Node}
use Rattle.fit.specs.Chosen.{TreeAt}
use Rattle.load.specs.Answer.{loaded_of, Loads}
use Rattle.load.specs.declared.Refused.{Refused}
use Rattle.prepare.specs.declared.Prepared.{Prepared}

-- what an expansion needs of a loaded text, besides its table: the tree of its templates stands in the row
pub record HasTree (text : Bytes) (t : Prepared) (row : List Node) : Type 0 where
  pub short : length text ≤ text_most
  pub fits : TreeAt t.loaded.marks row t.loaded.nodes (templates (loaded_of text t.table t.loaded).macros)
  pub nested : BodiesOk t.loaded.marks (loaded_of text t.table t.loaded).macros

-- the text loads, t is what it comes to, and its tree stands in the row of nodes
pub record IsPrepared (text : Bytes) (row : List Node) (t : Prepared) : Type 0 where
  pub loads : Loads (load text) text t.table (Ok t.loaded)
  pub has_tree : HasTree text t row

-- or it is refused
abbrev pub Prepares : Bytes → List Node → Result Prepared Refused → Type 0
Prepares text row (Ok t) = IsPrepared text row t
Prepares text row (Err f) = load text ≡ refused (load_number f.fault) f.line
