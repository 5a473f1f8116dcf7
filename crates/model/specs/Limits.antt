-- Document 01's limits; the limit itself is legal. They are the constants of src.
use Rattle.std.specs.Prelude.{ℕ}

-- bytes of a text
abbrev pub text_most : ℕ
text_most = 65536

-- bytes of a content, a parameter or a built line
abbrev pub line_most : ℕ
line_most = 200

-- a section's macros, code lines and tree nodes; the last is the least length of a lent row too
abbrev pub macros_most : ℕ
macros_most = 128

abbrev pub code_lines_most : ℕ
code_lines_most = 1024

abbrev pub nodes_most : ℕ
nodes_most = 2048

-- a template's placeholders
abbrev pub placeholders_most : ℕ
placeholders_most = 9

-- iterations in one another
abbrev pub nesting_most : ℕ
nesting_most = 4

-- open calls
abbrev pub calls_most : ℕ
calls_most = 12

-- stored names, and the bytes of names and texts together
abbrev pub names_most : ℕ
names_most = 256

abbrev pub memory_most : ℕ
memory_most = 8192

-- a run's events
abbrev pub fuel_most : ℕ
fuel_most = 1000000

-- the least length of a lent store, which any listing fits
abbrev pub store_least : ℕ
store_least = 8704

-- the least length of a lent row of dead places: a bit for each node at each position of a line
abbrev pub dead_least : ℕ
dead_least = 51456

-- the least length of a lent report, which any report fits
abbrev pub report_least : ℕ
report_least = 2048

-- values are signed numbers of 64 bits: from -(largest + 1) to largest
abbrev pub largest : ℕ
largest = 9223372036854775807

-- the digits of a stored number
abbrev pub digits_most : ℕ
digits_most = 19
