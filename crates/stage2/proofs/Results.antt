-- What the public calls answer, from what loading a text and fitting a line ensure.
use mathlib.Core.Path.{◌≡◌, refl, sym, ◌∙◌, ap, subst}
use mathlib.Core.Bool.{Bool, true, false, ◌||◌}
use mathlib.Core.Option as Math
use mathlib.Core.Option.{none}
use mathlib.Core.List.{List, [], ◌∷◌}
use Prim.Native.Nat.{ℕ, zero, suc, ◌≤◌, ◌<◌}
use native.Mathlib.Omega.{arith}
use lib.Dec.{ltb}
use lib.ListN.{length, get_or, take}
use borrow.Author.Tests.{lt-ltb, le-ltb}
use Rattle.model.specs.declared.Fitted.{Fitted}
use Rattle.model.specs.Text.{Bytes}
use Rattle.model.specs.Reading.{Reading as ReadingOf, chosen}
use Rattle.model.specs.Load as Load
use Rattle.model.specs.Load.{Macro, no_macro, templates, load, loaded, refused}
use Rattle.model.specs.Results.{short_row, short_dead, checked_as, starts_of, nine, without_pieces, fitted_as, fitted_in, fit_of_line}
use Rattle.model.specs.Places.{places_taken, bytes_read}
use Rattle.model.specs.FirstReading.{FitsFirst}
use Rattle.model.proofs.Choices.{false-not-true}
use Rattle.model.proofs.Theorems.{fit_is_first}
use Rattle.model.proofs.Choices.{when_true, when_false}
use Rattle.model.proofs.Loading.{templates-length}
use Rattle.nodes.specs.declared.Node.{Node}
use Rattle.nodes.specs.SideBySide.{HoldsTree}
use Rattle.fit.specs.declared.Choice.{Choice}
use Rattle.fit.specs.declared.Reading.{Reading}
use Rattle.fit.specs.Chosen.{Fits, TreeAt, Chosen, Chooses}
use Rattle.fit.proofs.Asking.{can_fit, tree_alone}
use Rattle.macros.specs.declared.Table.{Table}
use Rattle.macros.specs.Table.{macro_in, macros_in}
use Rattle.macros.proofs.Entries.{macros_in_length, macros_in_at}
use Rattle.std.specs.Prelude.{Option, Some, None, IsNone, IfSome, Result, Ok, Err}
use Rattle.faults.specs.Numbers.{load_number}
use Rattle.load.specs.declared.Loaded.{Loaded}
use Rattle.load.specs.declared.Refused.{Refused}
use Rattle.load.specs.Answer as Answer
use Rattle.load.specs.Answer.{loaded_of, Loads}
use Rattle.prepare.specs.declared.Prepared.{Prepared}
use Rattle.prepare.specs.Prepares.{IsPrepared}
use Rattle.prepare.proofs.Trees.{holds-tree}
use Rattle.stage2.specs.Answers.{answer_of}
use Rattle.stage2.specs.Rooms.{TestsRows}

-- ---- check

-- what loading answers is what check answers
module _ {text : Bytes} {t : Table} where
  pub checked_loaded : {r : Loaded} {x : Result Loaded Refused} → Loads (load text) text t x → x ≡ Ok r → record { number = 0; line = r.line } ≡ checked_as (load text)
  unfolding checked_as
  checked_loaded h e = ap checked_as (sym (h.is ∙ ap (Answer.answer_of text t) e))

  pub checked_refused : {f : Refused} {x : Result Loaded Refused} {k : ℕ} → Loads (load text) text t x → x ≡ Err f → k ≡ load_number f.fault
      → record { number = k; line = f.line } ≡ checked_as (load text)
  unfolding checked_as
  checked_refused {f} h e u = (λ i. record { number = u i; line = f.line }) ∙ ap checked_as (sym (h.is ∙ ap (Answer.answer_of text t) e))

-- ---- fit

-- a row that is too short gives 1
module _ (rows dead : ℕ) (text line : Bytes) {b : Bool} (h : TestsRows rows dead b) where
  pub fit_short : {f : Fitted} → b ≡ true → f ≡ without_pieces 1 0 → f ≡ fit_of_line rows dead text line
  unfolding fit_of_line
  fit_short e a = a ∙ sym (when_true _ _ (sym h.is ∙ e))

  pub fit_legal : {f : Fitted} → b ≡ false → f ≡ fitted_in line (load text) → f ≡ fit_of_line rows dead text line
  unfolding fit_of_line
  fit_legal e a = a ∙ sym (when_false _ _ (sym h.is ∙ e))

-- long rows don't
rows_long : {rows dead : ℕ} {b : Bool} → TestsRows rows dead b → 2048 ≤ rows → 51456 ≤ dead → b ≡ false
unfolding short_row short_dead
rows_long {rows} {dead} h u d = h.is ∙ ap (λ (t : Bool). t || ltb dead 51456) (le-ltb rows 2048 u) ∙ le-ltb dead 51456 d

-- the first-reading rule, and the tree that is left in the row
module _ {rows dead : ℕ} (text line : Bytes) {row : List Node} {f : Fitted} (e : f ≡ fit_of_line rows dead text line) where
  -- with rows that are too short there is neither
  pub no_rule : {b : Bool} → TestsRows rows dead b → b ≡ true → (t : Load.Loaded) → load text ≡ loaded t → 2048 ≤ rows → 51456 ≤ dead → HoldsTree t row × (length line ≤ 200 → FitsFirst t line f)
  no_rule h s t l u d = absurd (false-not-true (sym (rows_long h u d) ∙ s))

  pub first_rule : {p : Prepared} → IsPrepared text row p → (t : Load.Loaded) → load text ≡ loaded t → 2048 ≤ rows → 51456 ≤ dead → HoldsTree t row × (length line ≤ 200 → FitsFirst t line f)
  first_rule p t l u d = (holds-tree p t l, λ v. subst (FitsFirst t line) (sym e) (fit_is_first text t l line rows dead u d v))

template_at : (ms : List Macro) (k : ℕ) → get_or (templates ms) k [] ≡ (get_or ms k no_macro).template
unfolding templates no_macro
template_at [] k = refl
template_at (x ∷ ms) zero = refl
template_at (x ∷ ms) (suc k) = template_at ms k

-- a text that is refused
pub fit_refused : (text line : Bytes) {k k' n : ℕ} {f : Fitted} → load text ≡ refused k n → k' ≡ k → f ≡ without_pieces k' n → f ≡ fitted_in line (load text)
unfolding fitted_in
fit_refused text line {n = n} h u e = e ∙ ap (λ (k : ℕ). without_pieces k n) u ∙ ap (fitted_in line) (sym h)

module _ {text : Bytes} {t : Prepared} {row : List Node} (line : Bytes) (p : IsPrepared text row t) where
  abbrev l : Loaded
  l = t.loaded

  abbrev macros : List Macro
  macros = macros_in l.marks text t.table t.table.count

  -- its tree
  abbrev tree : List Node
  tree = take l.nodes row

  fits : TreeAt l.marks tree (length tree) (templates macros)
  fits = tree_alone p.has_tree.fits

  -- a line over 200 bytes
  pub fit_long : {k : ℕ} {f : Fitted} → 200 < length line → k ≡ 11 → f ≡ without_pieces k 0 → f ≡ fitted_in line (load text)
  unfolding fitted_in
  fit_long v u e = e ∙ ap (λ (k : ℕ). without_pieces k 0) u ∙ sym (when_true _ _ (lt-ltb 200 (length line) v)) ∙ ap (fitted_in line) (sym p.loads.is)

  -- any other
  fit_loaded : length line ≤ 200 → fitted_as (loaded_of text t.table l) (chosen l.marks (templates macros) line)
      (places_taken l.marks (templates macros) line) (bytes_read l.marks (templates macros) line)
      ≡ fitted_in line (load text)
  unfolding fitted_in
  fit_loaded v = sym (when_false _ _ (le-ltb 200 (length line) v)) ∙ ap (fitted_in line) (sym p.loads.is)

  -- the tree is there to be searched, with room for its dead places
  pub asks_whole : {dead : Bytes} → 51456 ≤ length dead → length line ≤ 200 → Fits tree (length tree) dead line
  asks_whole d v = can_fit fits v d

  module _ {c : Choice} (h : Chooses l.marks tree (length tree) line c) where
    -- the places that were taken up
    taken : c.places ≡ places_taken l.marks (templates macros) line
    taken = h.places (templates macros) fits

    -- and the bytes that were read
    read : c.bytes ≡ bytes_read l.marks (templates macros) line
    read = h.bytes (templates macros) fits

    place : {r : Reading} → Chosen l.marks (templates macros) line r → r.template < t.table.count
    place w = omega (arith, w.place, templates-length macros, macros_in_length l.marks text t.table t.table.count)

    -- the chosen template is one of the table's
    pub template_within : IfSome c.reading (λ r. r.template < 128)
    template_within = by c.reading h.call
      where
        by : (o : Option Reading) → IfSome o (λ r. (ts : List Bytes) → TreeAt l.marks tree (length tree) ts → Chosen l.marks ts line r) → IfSome o (λ r. r.template < 128)
        by (Some r) w = omega (arith, place (w (templates macros) fits), p.loads.sound.inside.entries.few)
        by None w = tt

    -- what a fit of the line comes to
    abbrev whole : Fitted
    whole = fitted_as (loaded_of text t.table l) (chosen l.marks (templates macros) line) (places_taken l.marks (templates macros) line) (bytes_read l.marks (templates macros) line)

    no_call : chosen l.marks (templates macros) line ≡ none → answer_of t.table None c.places c.bytes ≡ whole
    unfolding fitted_as
    no_call e =
        (λ i. record { number = 0; line = 0; start = nine []; length = nine []; places = taken i; bytes = read i })
        ∙ ap (λ (o : Math.Option ReadingOf). fitted_as (loaded_of text t.table l) o (places_taken l.marks (templates macros) line) (bytes_read l.marks (templates macros) line)) (sym e)

    call : {r : Reading} → Chosen l.marks (templates macros) line r → answer_of t.table (Some r) c.places c.bytes ≡ whole
    unfolding fitted_as
    call {r} w =
        let x : macro_in l.marks text t.table r.template ≡ get_or macros w.reading.which no_macro =
        sym (macros_in_at l.marks text t.table t.table.count r.template (place w)) ∙ ap (λ (k : ℕ). get_or macros k no_macro) (sym w.which) in
        let y : get_or (templates macros) r.template [] ≡ (get_or macros w.reading.which no_macro).template =
        template_at macros r.template ∙ ap (λ (k : ℕ). (get_or macros k no_macro).template) (sym w.which) in
        let starts = w.starts ∙ ap (λ (q : Bytes). nine (starts_of l.marks 0 q w.reading.pieces)) y in
        (λ i. record { number = 0; line = (x i).line; start = starts i; length = w.lens i; places = taken i; bytes = read i })
        ∙ ap (λ (o : Math.Option ReadingOf). fitted_as (loaded_of text t.table l) o (places_taken l.marks (templates macros) line) (bytes_read l.marks (templates macros) line)) (sym w.is)

    -- what the choice comes to
    pub fit_chosen : {f : Fitted} → length line ≤ 200 → f ≡ answer_of t.table c.reading c.places c.bytes → f ≡ fitted_in line (load text)
    fit_chosen {f} v a = a ∙ by c.reading h.no_call h.call ∙ fit_loaded v
      where
        by : (o : Option Reading) → (IsNone o → (ts : List Bytes) → TreeAt l.marks tree (length tree) ts → chosen l.marks ts line ≡ none)
            → IfSome o (λ r. (ts : List Bytes) → TreeAt l.marks tree (length tree) ts → Chosen l.marks ts line r)
            → answer_of t.table o c.places c.bytes ≡ whole
        by (Some r) n w = call (w (templates macros) fits)
        by None n w = no_call (n refl (templates macros) fits)
