-- The usage report (document 02, request 7): the lines offered, counted by what was decided of each, and the report's bytes.
use Rattle.std.specs.Prelude.{◌≡◌, List, [], ◌∷◌, ◌++◌, ℕ, zero, suc, ◌+◌, ◌≤◌, length, replicate}
use Rattle.std.proofs.Math.Option.{Option, none, some}
use Rattle.model.specs.Text.{Bytes}
use Rattle.model.specs.Store.{decimal}
use Rattle.model.specs.Load.{Macro}

-- for each template, in the order of the text, how many lines it was chosen for; and how many were passed through
pub record Tally : Type 0 where
  pub uses : List ℕ
  pub passed : ℕ

-- before any line is offered
unfoldable pub no_lines : List Macro → Tally
no_lines ms = record { uses = replicate (length ms) 0; passed = 0 }

-- one more at place i
unfoldable pub one_more_of : ℕ → List ℕ → List ℕ
one_more_of i [] = []
one_more_of zero (n ∷ ns) = suc n ∷ ns
one_more_of (suc i) (n ∷ ns) = n ∷ one_more_of i ns

-- one line more, by the template that is chosen for it, or none
unfoldable pub tallied : (which : Option ℕ) → Tally → Tally
tallied none y = record { uses = y.uses; passed = suc y.passed }
tallied (some i) y = record { uses = one_more_of i y.uses; passed = y.passed }

-- ---- what is printed

-- a line of the report: a template's line number, or 0, and how many lines were counted
abbrev pub Row : Type 0
Row = ℕ × ℕ

-- a row for each template
unfoldable pub use_rows : List Macro → (uses : List ℕ) → List Row
use_rows [] ns = []
use_rows (x ∷ xs) [] = (x.line, 0) ∷ use_rows xs []
use_rows (x ∷ xs) (n ∷ ns) = (x.line, n) ∷ use_rows xs ns

-- and last 0 with the lines passed through
unfoldable pub report_rows : List Macro → Tally → List Row
report_rows ms y = use_rows ms y.uses ++ ((0, y.passed) ∷ [])

-- a row's numbers with a comma between them and byte 10 after them
unfoldable pub row_bytes : Row → Bytes
row_bytes r = decimal r.0 ++ (44 ∷ decimal r.1 ++ (10 ∷ []))

unfoldable pub rows_bytes : List Row → Bytes
rows_bytes [] = []
rows_bytes (r ∷ rs) = row_bytes r ++ rows_bytes rs

-- `template,calls`
unfoldable pub report_head : Bytes
report_head = 116 ∷ 101 ∷ 109 ∷ 112 ∷ 108 ∷ 97 ∷ 116 ∷ 101 ∷ 44 ∷ 99 ∷ 97 ∷ 108 ∷ 108 ∷ 115 ∷ 10 ∷ []

unfoldable pub report_bytes : List Row → Bytes
report_bytes rs = report_head ++ rows_bytes rs

-- ---- what is said of the rows

-- the printed counts together
unfoldable pub total : List Row → ℕ
total [] = 0
total (r ∷ rs) = r.1 + total rs

-- the same line numbers, and no count is smaller
abbrev pub NoLess : List Row → List Row → Type 0
NoLess [] [] = Unit {0}
NoLess [] (b ∷ bs) = ⊥
NoLess (a ∷ cs) [] = ⊥
NoLess (a ∷ cs) (b ∷ bs) = (a.0 ≡ b.0) × (a.1 ≤ b.1) × NoLess cs bs
