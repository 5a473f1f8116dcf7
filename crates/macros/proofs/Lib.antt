-- The laws of the table of macros.
pub mod Entries
