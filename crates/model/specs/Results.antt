-- What the public calls answer, for every argument (document 01, the table of numbers). Fields that a row of the table doesn't name are 0.
use Rattle.std.specs.Prelude.{Bool, true, false, ◌||◌, List, [], ◌∷◌, ◌++◌, map, ℕ, suc, ◌+◌, ◌-◌, eqb, ltb, length, get_or, replicate}
use Rattle.std.proofs.Math.Option.{Option, none, some}
use Rattle.model.specs.Limits.{line_most, nodes_most, store_least, dead_least, report_least, fuel_most}
use Rattle.model.specs.declared.Marks.{Marks}
use Rattle.model.specs.declared.Checked.{Checked}
use Rattle.model.specs.declared.Fitted.{Fitted}
use Rattle.model.specs.declared.Ran.{Ran}
use Rattle.model.specs.Text.{Bytes}
use Rattle.model.specs.Reading.{Pieces, Reading, chosen}
use Rattle.model.specs.Load.{Macro, no_macro, templates, Loaded, Load, refused, loaded, load}
use Rattle.model.specs.Machine.{Rooms, Result, no_run, run}
use Rattle.model.specs.Places.{places_taken, bytes_read}

-- 1 where the node row is below 2,048
unfoldable pub short_row : ℕ → Bool
short_row rows = ltb rows nodes_most

-- 1 where the row of dead places is below 51,456 bytes
unfoldable pub short_dead : ℕ → Bool
short_dead dead = ltb dead dead_least

-- ---- check

unfoldable pub checked_as : Load → Checked
checked_as (refused k n) = record { number = k; line = n }
checked_as (loaded t) = record { number = 0; line = t.last }

-- a text checked with a lent row of nodes
unfoldable pub check_text : ℕ → Bytes → Checked
check_text rows text = elim (short_row rows) [ true ↦ record { number = 1; line = 0 } | false ↦ checked_as (load text) ]

-- ---- fit

-- where the pieces start, for what is left of a template from place `at` of the line on
unfoldable pub starts_of : Marks → ℕ → Bytes → Pieces → List ℕ
starts_of m at t [] = []
starts_of m at [] (p ∷ ps) = []
starts_of m at (b ∷ t) (p ∷ ps) = elim (eqb b m.placeholder) [ true ↦ at ∷ starts_of m (at + length p) t ps | false ↦ starts_of m (suc at) t (p ∷ ps) ]

-- nine numbers, 0 for those that lack
unfoldable pub nine : List ℕ → List ℕ
nine ns = ns ++ replicate (9 - length ns) 0

-- a number and a line, with no pieces, no place taken up and no byte read
unfoldable pub without_pieces : ℕ → ℕ → Fitted
without_pieces k n = record { number = k; line = n; start = nine []; length = nine []; places = 0; bytes = 0 }

-- a reading or none, the number of places that were taken up, and of bytes that were read
unfoldable pub fitted_as : Loaded → Option Reading → (places bytes : ℕ) → Fitted
fitted_as t none k n = record { number = 0; line = 0; start = nine []; length = nine []; places = k; bytes = n }
fitted_as t (some r) k n =
    let x : Macro = get_or t.macros r.which no_macro in
    record { number = 0; line = x.line; start = nine (starts_of t.marks 0 x.template r.pieces); length = nine (map (λ p. length p) r.pieces); places = k; bytes = n }

-- a line over 200 bytes gives 11
unfoldable pub fitted_in : Bytes → Load → Fitted
fitted_in line (refused k n) = without_pieces k n
fitted_in line (loaded t) =
    let ts : List Bytes = templates t.macros in
    elim (ltb line_most (length line)) [ true ↦ without_pieces 11 0 | false ↦ fitted_as t (chosen t.marks ts line) (places_taken t.marks ts line) (bytes_read t.marks ts line) ]

-- a line, taken whole, fitted against the templates of a text, with lent rows of nodes and of dead places
unfoldable pub fit_of_line : (rows dead : ℕ) → Bytes → Bytes → Fitted
fit_of_line rows dead text line = elim (short_row rows || short_dead dead) [ true ↦ without_pieces 1 0 | false ↦ fitted_in line (load text) ]

-- ---- run

-- 1 where the fuel isn't 1 to 1,000,000, the node row is below 2,048, the row of dead places below 51,456, the store below 8,704 or the report
-- below 2,048
unfoldable pub illegal : (fuel rows dead store report : ℕ) → Bool
illegal fuel rows dead store report = ltb fuel 1 || (ltb fuel_most fuel || (short_row rows || (short_dead dead || (ltb store store_least || ltb report report_least))))

-- a run with this fuel, with rows of these lengths and rooms of these sizes
unfoldable pub run_text : (fuel rows dead : ℕ) (room : Rooms) (store report : ℕ) → Bytes → Result
run_text fuel rows dead room store report text = elim (illegal fuel rows dead store report) [ true ↦ no_run 1 0 | false ↦ run fuel room (load text) ]

-- the numbers of a result
unfoldable pub ran_as : Result → Ran
ran_as x = record {
  number = x.number;
  line = x.line;
  events = x.events;
  output = length x.output.first;
  second = length x.output.second;
  store = length x.store;
  report = length x.report;
}
