-- The answer of loading, and what it says of the text.
use Rattle.std.specs.Prelude.{◌≡◌, Result, Ok, Err, IfOk, ◌≤◌, length, drop}
use Rattle.model.specs.Text.{Bytes, lines}
use Rattle.model.specs.Load as Load
use Rattle.model.specs.Load.{nodes}
use Rattle.faults.specs.Numbers.{load_number}
use Rattle.macros.specs.declared.Table.{Table}
use Rattle.macros.specs.Table.{order_in, templates_in, macros_in, EntriesInside}
use Rattle.templates.specs.Order.{InOrder}
use Rattle.load.specs.declared.Loaded.{Loaded}
use Rattle.load.specs.declared.Refused.{Refused}

-- the loaded text; t is the table
abbrev pub loaded_of : Bytes → Table → Loaded → Load.Loaded
loaded_of text t r = record { marks = r.marks; macros = macros_in r.marks text t t.count; last = r.line; input = lines (drop r.input text) }

-- what an answer says: the loaded text, or document 01's number and the line of a fault
abbrev pub answer_of : Bytes → Table → Result Loaded Refused → Load.Load
answer_of text t (Ok r) = Load.loaded (loaded_of text t r)
answer_of text t (Err f) = Load.refused (load_number f.fault) f.line

-- what else is known of a loaded text
pub record LoadedSound (text : Bytes) (t : Table) (r : Loaded) : Type 0 where
  pub inside : EntriesInside text t t.count
  pub counted : r.nodes ≡ nodes (macros_in r.marks text t t.count)
  pub in_order : InOrder r.marks.placeholder (templates_in text t t.count) (order_in t)
  pub input : r.input ≤ length text
  pub read : r.line ≤ r.input

-- loading comes to x; t is the table then
pub record Loads (x : Load.Load) (text : Bytes) (t : Table) (r : Result Loaded Refused) : Type 0 where
  pub is : x ≡ answer_of text t r
  pub sound : IfOk r (LoadedSound text t)
