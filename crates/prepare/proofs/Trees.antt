-- The tree that is built of a loaded text's table is the tree of the text's templates.
use mathlib.Core.Path.{◌≡◌, refl, sym, ◌∙◌, subst}
use mathlib.Core.List.{List, []}
use Prim.Native.Nat.{ℕ, ◌≤◌}
use native.Mathlib.Omega.{arith}
use lib.ListN.{length, get_or, take}
use lib.Seq.{length-take-le}
use Rattle.model.specs.Text.{Bytes}
use Rattle.model.specs.Load as Load
use Rattle.model.specs.Load.{Macro, loaded, refused, load, templates, count, nodes}
use Rattle.model.specs.Legal.{Lawful, Legal}
use Rattle.model.proofs.Loading.{brackets, load_legal}
use Rattle.model.proofs.Nesting.{load-nested}
use Rattle.model.proofs.Input.{text_short}
use Rattle.nodes.specs.declared.Node.{Node}
use Rattle.nodes.specs.SideBySide.{SideBySide, HoldsTree}
use Rattle.macros.specs.declared.Table.{Table}
use Rattle.macros.specs.Table.{templates_in, macros_in}
use Rattle.macros.proofs.Entries.{macros-templates, templates_in_length}
use Rattle.tree.specs.Built.{ReadyToBuild, Built, Builds}
use Rattle.std.specs.Prelude.{Ok, Err}
use Rattle.load.specs.declared.Loaded.{Loaded}
use Rattle.load.specs.declared.Refused.{Refused}
use Rattle.load.specs.Answer.{loaded_of, Loads}
use Rattle.load.proofs.Answer.{loads_counted, loads_nodes}
use Rattle.prepare.specs.declared.Prepared.{Prepared}
use Rattle.prepare.specs.Prepares.{HasTree, IsPrepared, Prepares}

module _ {text : Bytes} {t : Prepared} (h : Loads (load text) text t.table (Ok t.loaded)) where
  abbrev r : Loaded
  r = t.loaded

  -- the macros, and their templates as the table has them
  abbrev macros : List Macro
  macros = macros_in r.marks text t.table t.table.count

  abbrev listed : List Bytes
  listed = templates_in text t.table t.table.count

  same : templates macros ≡ listed
  same = macros-templates r.marks text t.table t.table.count

  legal : Lawful r.marks × Legal r.marks macros
  legal = load_legal text (loaded_of text t.table r) h.is

  -- the templates are ready for their tree, in a row of 2,048 nodes or more
  pub ready : {row : List Node} → 2048 ≤ length row → ReadyToBuild r.marks.placeholder listed row
  ready u = record {
    few = omega (arith, templates_in_length text t.table t.table.count, h.sound.inside.entries.few);
    short = λ k. subst (λ (ts : List Bytes). length (get_or ts k []) ≤ 200) same (legal.1.short k);
    nine = λ k. subst (λ (ts : List Bytes). count r.marks.placeholder (get_or ts k []) ≤ 9) same (legal.1.nine k);
    room = omega (arith, loads_counted h, loads_nodes h);
    small = omega (arith, loads_counted h, loads_nodes h);
  }

  -- as many nodes are built as are counted
  built_counted : (row : List Node) (c : ℕ) → c ≤ length row → Built r.marks listed (take c row) → c ≡ r.nodes
  built_counted row c u b = omega (arith, b.count, length-take-le c row u, loads_counted h)

  -- what is built is the tree of the text's templates
  has_tree : (row : List Node) → r.nodes ≤ length row → Built r.marks listed (take r.nodes row) → HasTree text t row
  has_tree row u b = record {
    short = text_short text (loaded_of text t.table r) h.is;
    fits = record {
      within = u;
      few = loads_nodes h;
      tree = subst (λ (ts : List Bytes). SideBySide r.marks ts (take r.nodes row)) (sym same) b.tree;
      distinct = legal.1.different;
      differ = brackets r.marks legal.0;
    };
    nested = load-nested text (loaded_of text t.table r) h.is;
  }

  -- the text is prepared
  pub prepared : {row : List Node} {c : ℕ} → Builds r.marks.placeholder listed row c → IsPrepared text row t
  prepared {row} {c} b =
      let u = b.built r.marks refl in
      let e = built_counted row c b.within u in
      record { loads = h; has_tree = has_tree row (subst (λ (n : ℕ). n ≤ length row) e b.within) (subst (λ (n : ℕ). Built r.marks listed (take n row)) e u) }

-- a text that is refused is prepared as refused, whatever the table and the row hold
pub refused_text : {text : Bytes} (row : List Node) {t : Table} {f : Refused} → Loads (load text) text t (Err f) → Prepares text row (Err f)
refused_text row h = h.is

-- a prepared text has its tree in the row
pub holds-tree : {text : Bytes} {row : List Node} {t : Prepared} → IsPrepared text row t → (u : Load.Loaded) → load text ≡ loaded u → HoldsTree u row
holds-tree {text} {row} {t} p u loads =
    let e : loaded (loaded_of text t.table t.loaded) ≡ loaded u = sym p.loads.is ∙ loads in
    let q : loaded_of text t.table t.loaded ≡ u = cc in
    let n : t.loaded.nodes ≡ nodes (loaded_of text t.table t.loaded).macros = p.loads.sound.counted in
    let f = p.has_tree.fits in
    subst (λ (l : Load.Loaded). HoldsTree l row) q (record {
      within = subst (λ (c : ℕ). c ≤ length row) n f.within;
      tree = subst (λ (c : ℕ). SideBySide t.loaded.marks (templates (loaded_of text t.table t.loaded).macros) (take c row)) n f.tree;
    })

-- a text that is refused does not load
pub refused-loads : (text : Bytes) {k n : ℕ} (u : Load.Loaded) → load text ≡ refused k n → load text ≡ loaded u → ⊥
refused-loads text u e q =
    let z : refused _ _ ≡ loaded u = sym e ∙ q in
    let y : ◌≡◌ {A = ℕ} 0 1 = cc in
    omega (arith, y)
