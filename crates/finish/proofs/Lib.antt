-- The laws of a code line's end.
pub mod Lines
pub mod Storing
pub mod Iterating
