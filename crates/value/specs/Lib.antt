-- How values are read from the front of a text.
pub mod Turns
pub mod Reads
