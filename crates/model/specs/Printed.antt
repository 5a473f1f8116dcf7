-- What the programs print on standard output, and what expand writes to its files, byte for byte: numbers are in decimal, a blank is byte 32, and each row ends with byte 10.
use Rattle.std.specs.Prelude.{List, [], ◌∷◌, ◌++◌, ℕ}
use Rattle.model.specs.Limits.{text_most, nodes_most, fuel_most, store_least, dead_least, report_least}
use Rattle.model.specs.declared.Checked.{Checked}
use Rattle.model.specs.declared.Fitted.{Fitted}
use Rattle.model.specs.Text.{Bytes, lines}
use Rattle.model.specs.Store.{decimal}
use Rattle.model.specs.Machine.{rooms, Result}
use Rattle.model.specs.Results.{check_text, fit_of_line, run_text}

-- a number after a blank
unfoldable pub spaced : ℕ → Bytes
spaced n = 32 ∷ decimal n

-- ---- expand

-- END, then number, line and events
unfoldable pub end_row : (number line events : ℕ) → Bytes
end_row k n e = (69 ∷ 78 ∷ 68 ∷ []) ++ spaced k ++ spaced n ++ spaced e ++ (10 ∷ [])

-- `expand` runs a text with all the fuel there is, with room for as many bytes of the output as a text has, and with so many for the second
-- output: as many where a file is named for it, else none
unfoldable pub expand_runs : (second : ℕ) → Bytes → Result
expand_runs second text = run_text fuel_most nodes_most dead_least (rooms text_most second) store_least report_least text

-- it prints a run's output, then its end
unfoldable pub run_printed : Result → Bytes
run_printed x = x.output.first ++ end_row x.number x.line x.events

unfoldable pub expand_prints : (second : ℕ) → Bytes → Bytes
expand_prints second text = run_printed (expand_runs second text)

-- and writes the second output to its file, and the usage report to another
unfoldable pub expand_writes : (second : ℕ) → Bytes → Bytes
expand_writes second text = (expand_runs second text).output.second

unfoldable pub expand_reports : (second : ℕ) → Bytes → Bytes
expand_reports second text = (expand_runs second text).report

-- ---- check_text

-- a file's name, then number and line
unfoldable pub check_row : Bytes → Checked → Bytes
check_row name c = name ++ spaced c.number ++ spaced c.line ++ (10 ∷ [])

-- `check_text` has a row for each file, of which it knows name and text
unfoldable pub check_prints : List (Bytes × Bytes) → Bytes
check_prints [] = []
check_prints (f ∷ fs) = check_row f.0 (check_text nodes_most f.1) ++ check_prints fs

-- ---- fit_line

-- start and length of each piece
unfoldable pub piece_row : (starts lengths : List ℕ) → Bytes
piece_row [] ls = []
piece_row (s ∷ ss) [] = []
piece_row (s ∷ ss) (l ∷ ls) = (spaced s ++ spaced l) ++ piece_row ss ls

-- number and template's line, then the pieces, then the numbers of places taken up and of bytes read
unfoldable pub fit_row : Fitted → Bytes
fit_row f = decimal f.number ++ spaced f.line ++ piece_row f.start f.length ++ spaced f.places ++ spaced f.bytes ++ (10 ∷ [])

unfoldable pub fit_rows : Bytes → List Bytes → Bytes
fit_rows text [] = []
fit_rows text (l ∷ ls) = fit_row (fit_of_line nodes_most dead_least text l) ++ fit_rows text ls

-- `fit_line` has a row for each line of a file, taken whole
unfoldable pub fit_prints : (text file : Bytes) → Bytes
fit_prints text file = fit_rows text (lines file)
