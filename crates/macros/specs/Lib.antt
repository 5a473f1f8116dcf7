-- The table of macros.
pub mod Table
