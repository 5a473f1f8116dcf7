-- What an answer of loading says of a text that loads.
use mathlib.Core.Path.{◌≡◌, ◌∙◌, subst}
use Prim.Native.Nat.{suc, ◌≤◌}
use native.Mathlib.Omega.{arith}
use Rattle.model.specs.Text.{Bytes}
use Rattle.model.specs.Load.{templates, load}
use Rattle.model.specs.Fitting.{Distinct}
use Rattle.model.specs.Legal.{Legal}
use Rattle.model.proofs.Loading.{load_legal}
use Rattle.macros.specs.declared.Table.{Table}
use Rattle.macros.specs.Table.{macros_in, templates_in}
use Rattle.macros.proofs.Entries.{macros-templates}
use Rattle.templates.specs.Count.{beginnings}
use Rattle.templates.proofs.Count.{nodes-beginnings}
use Rattle.std.specs.Prelude.{Ok}
use Rattle.load.specs.declared.Loaded.{Loaded}
use Rattle.load.specs.Answer.{loaded_of, Loads}

module _ {text : Bytes} {t : Table} {r : Loaded} (h : Loads (load text) text t (Ok r)) where
  -- the macros that are loaded are legal
  loads_legal : Legal r.marks (macros_in r.marks text t t.count)
  loads_legal = (load_legal text (loaded_of text t r) h.is).1

  -- the templates of the table are theirs
  loads_templates : templates (macros_in r.marks text t t.count) ≡ templates_in text t t.count
  loads_templates = macros-templates r.marks text t t.count

  -- the answer counts the nodes of their tree
  pub loads_counted : r.nodes ≡ suc (beginnings (templates_in text t t.count))
  loads_counted =
      h.sound.counted ∙ nodes-beginnings (templates_in text t t.count) (macros_in r.marks text t t.count) loads_templates (subst Distinct loads_templates loads_legal.different)

  -- they are 2,048 at most
  pub loads_nodes : r.nodes ≤ 2048
  loads_nodes = omega (arith, h.sound.counted, loads_legal.tree)
