-- What loading a text gives its expansion.
use Rattle.std.specs.Prelude.{◌≡◌, List, ℕ, ◌≤◌, ◌<◌, length, get_or}
use Rattle.model.specs.Limits.{text_most, macros_most}
use Rattle.model.specs.declared.Marks.{Marks}
use Rattle.model.specs.Text.{Bytes}
use Rattle.model.specs.Load.{templates, no_macro, Loaded, body_at}
use Rattle.model.specs.Report.{Tally}
use Rattle.model.specs.Sizes.{BodiesOk}
use Rattle.nodes.specs.declared.Node.{Node}
use Rattle.macros.specs.declared.Table.{Table}
use Rattle.macros.specs.Table.{bodies_in}
use Rattle.fit.specs.Chosen.{TreeAt}
use Rattle.usage.specs.Counts.{tally_of}

-- what a run goes by: the marks and the text, the row of nodes and how many of them the tree has, and where the bodies start
pub record Basis : Type 0 where
  pub marks : Marks
  pub text : Bytes
  pub nodes : List Node
  pub count : ℕ
  pub bodies : List ℕ

-- of the nodes that are the tree, and of the table
abbrev pub basis : Marks → Bytes → List Node → Table → Basis
basis m text nodes table = record { marks = m; text = text; nodes = nodes; count = length nodes; bodies = bodies_in table }

-- t is loaded from the text: the marks are its, the tree of its templates stands in the row, and `bodies` says where each macro's body starts
pub record Book (b : Basis) (t : Loaded) : Type 0 where
  pub marks : t.marks ≡ b.marks
  pub short : length b.text ≤ text_most
  pub fits : TreeAt b.marks b.nodes b.count (templates t.macros)
  pub few : length t.macros ≤ macros_most
  pub within : (k : ℕ) → k < length t.macros → get_or b.bodies k 0 ≤ length b.text
  pub body : (k : ℕ) → k < length t.macros → (get_or t.macros k no_macro).body ≡ body_at b.marks b.text (get_or b.bodies k 0)
  pub nested : BodiesOk b.marks t.macros

-- the tally that the counts of a run of t stand for
abbrev pub tally_in : Loaded → (counts : List ℕ) → Tally
tally_in t counts = tally_of (length t.macros) counts

-- a text is loaded into these
pub record Prepared (b : Basis) : Type 0 where
  pub table : Loaded
  pub book : Book b table
