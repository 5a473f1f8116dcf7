-- What a line comes to, as the model's values: a loader stands for the model's progress.
use Rattle.std.specs.Prelude.{◌≡◌, Bool, true, false, Option, Some, None, Result, Ok, Err, ℕ, ◌+◌, ◌≤◌, length, drop}
use Rattle.model.specs.Limits.{nodes_most}
use Rattle.model.specs.declared.Marks.{Marks}
use Rattle.model.specs.Text.{Bytes, part, lines}
use Rattle.model.specs.Load as Load
use Rattle.model.specs.Load.{nodes, line_seen}
use Rattle.faults.specs.declared.LoadFault.{LoadFault}
use Rattle.faults.specs.Numbers.{load_number}
use Rattle.macros.specs.Table.{order_in, templates_in, macros_in, EntriesInside}
use Rattle.templates.specs.Order.{InOrder}
use Rattle.load.specs.declared.Loaded.{Loaded}
use Rattle.load.specs.declared.Loader.{Loader}
use Rattle.load.specs.declared.Next.{Next}
use Rattle.load.specs.declared.Next.TheVariants.{Template, Code, Layout}

-- of the next line: whether it stands in a body, how many iterations are open there, and whether a layout is due
abbrev pub in_body : Next → Bool
in_body Template = false
in_body (Code n) = true
in_body (Layout n) = true

abbrev pub opened : Next → ℕ
opened Template = 0
opened (Code n) = n
opened (Layout n) = n

abbrev pub due : Next → Bool
due Template = false
due (Code n) = false
due (Layout n) = true

-- what a line comes to: its fault, or the loaded text where it ends the section
abbrev pub LineSeen : Type 0
LineSeen = Result (Option Loaded) LoadFault

abbrev pub progress_of : Marks → Bytes → Loader → Load.Progress
progress_of m text l = record { macros = macros_in m text l.table l.table.count; codes = l.codes; in_body = in_body l.next; opened = opened l.next; due = due l.next }

-- the loader is l after it
abbrev pub seen_of : Marks → Bytes → Loader → LineSeen → Load.Seen
seen_of m text l (Err f) = Load.fault (load_number f)
seen_of m text l (Ok None) = Load.more (progress_of m text l)
seen_of m text l (Ok (Some x)) = Load.section_ends

-- the table holds the macros so far and has them in order, and their tree's nodes are counted
pub record TableSound (m : Marks) (text : Bytes) (l : Loader) : Type 0 where
  pub inside : EntriesInside text l.table l.table.count
  pub counted : l.nodes ≡ nodes (macros_in m text l.table l.table.count)
  pub tree : l.nodes ≤ nodes_most
  pub in_order : InOrder m.placeholder (templates_in text l.table l.table.count) (order_in l.table)

-- the bytes stand in the text from `start` on, before the place `next`
pub record LineIn (text : Bytes) (start : ℕ) (bytes : Bytes) (next : ℕ) : Type 0 where
  pub high : start + length bytes ≤ next
  pub within : next ≤ length text
  pub is : bytes ≡ part text start (start + length bytes)

-- the loader k that is left where line n, after which the next one starts at `next`, came to r; l was it before
-- after a fault and at the section's end it is as it was
abbrev pub Left : Marks → Bytes → Loader → ℕ → ℕ → Loader → LineSeen → Type 0
Left m text l n next k (Err f) = k ≡ l
Left m text l n next k (Ok None) = TableSound m text k
Left m text l n next k (Ok (Some x)) = (k ≡ l) × (x ≡ record { line = n; marks = m; nodes = l.nodes; input = next })

-- line n has these bytes, and the next one starts at `next`: it comes to r, and the loader l to k
pub record SeesLine (m : Marks) (text : Bytes) (l : Loader) (n : ℕ) (bytes : Bytes) (next : ℕ) (k : Loader) (r : LineSeen) : Type 0 where
  pub is : line_seen m (progress_of m text l) n bytes (lines (drop next text)) ≡ seen_of m text k r
  pub left : Left m text l n next k r
