-- What fitting a line promises, and offering one in a run, in document 01's words: no call exactly when no template fits under any split into
-- balanced pieces; otherwise the template and the pieces of the reading before every other fitting one.
use Rattle.std.specs.Prelude.{◌≡◌, ◌↔◌, map, ℕ, suc, ◌*◌, ◌≤◌, ◌<◌, length, get_or}
use Rattle.std.proofs.Math.Option.{none, some}
use Rattle.model.specs.declared.Fitted.{Fitted}
use Rattle.model.specs.Text.{Bytes}
use Rattle.model.specs.Reading.{Pieces}
use Rattle.model.specs.Load.{no_macro, templates, nodes, Loaded}
use Rattle.model.specs.Machine.{Rooms, State, Next, call, pass_through, decided}
use Rattle.model.specs.Results.{starts_of, nine}
use Rattle.model.specs.Fitting.{Reads, First}

-- the answer r names the reading by the i-th template with the pieces ps
pub record Names (t : Loaded) (i : ℕ) (ps : Pieces) (r : Fitted) : Type 0 where
  pub line : r.line ≡ (get_or t.macros i no_macro).line
  pub start : r.start ≡ nine (starts_of t.marks 0 (get_or t.macros i no_macro).template ps)
  pub length : r.length ≡ nine (map (λ p. length p) ps)

-- the answer r for a line
pub record FitsFirst (t : Loaded) (line : Bytes) (r : Fitted) : Type 0 where
  pub done : r.number ≡ 0
  pub no_call : r.line ≡ 0 ↔ ((i : ℕ) (ps : Pieces) → ¬ Reads t.marks (templates t.macros) line i ps)
  pub call : 0 < r.line → (i : ℕ) × (ps : Pieces) × First t.marks (templates t.macros) line i ps × Names t i ps r
  pub few_places : r.places ≤ nodes t.macros * suc (length line)
  pub few_bytes : r.bytes ≤ r.places * length line

-- the line l is offered in a run: from the state s, in which that event is counted, the machine comes to x, with the line counted as passed through or
-- as the template's. Where twelve calls are open, `call` ends with 14, whatever the reading
pub record OffersFirst (room : Rooms) (t : Loaded) (l : Bytes) (s : State) (x : Next) : Type 0 where
  pub passed : x ≡ pass_through room l (decided none s) ↔ ((i : ℕ) (ps : Pieces) → ¬ Reads t.marks (templates t.macros) l i ps)
  pub called : ¬ (x ≡ pass_through room l (decided none s)) → (i : ℕ) × (ps : Pieces) × First t.marks (templates t.macros) l i ps
      × (x ≡ call (get_or t.macros i no_macro) ps (decided (some i) s))
