-- The laws of atoms.
pub mod Atoms
