-- Every main statement, with its proof cited.
pub mod Theorems
-- Laws that the proofs here and in other crates cite: of tests, and of parts of a text.
pub mod Choices
pub mod Text
-- Characters: decoding and encoding undo each other, and what is done with them.
pub mod Utf8
pub mod Characters
-- The first reading.
pub mod Chosen
pub mod Atoms
pub mod Parts
-- The search that takes up no place twice: it finds what the search without marks finds, takes up each place once, reads few bytes, and does
-- not depend on how nodes are numbered.
pub mod Search
pub mod Unmarked
pub mod Different
pub mod Once
pub mod Looks
pub mod Beginnings
pub mod NodeCount
pub mod Renumbered
pub mod SearchFuel
pub mod Places
pub mod FirstReading
-- Keys and elements.
pub mod Children
-- The starred examples.
pub mod Starred
-- Conversions and channels, and their digits.
pub mod Conversions
pub mod Channels
-- Laws of the machine.
pub mod Copying
pub mod Copies
pub mod Fuel
pub mod Steps
pub mod Events
pub mod Nesting
pub mod Frames
-- What a text that loads has, where a run stands in it, and how large a state is.
pub mod Loading
pub mod Input
pub mod Sizes
-- The usage report: its counts, and how long it is.
pub mod Usage
-- Every value fits its width.
pub mod Range
-- The bounds on depth in Value and Machine are large enough.
pub mod Depth
-- The numbers of the table, and what document 01 demands of a run.
pub mod NumberTable
pub mod Demands
-- How long the rows are that the programs print.
pub mod Printed
