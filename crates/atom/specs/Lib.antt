-- Atoms of a line.
pub mod Atoms
