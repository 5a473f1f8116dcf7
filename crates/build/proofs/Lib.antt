-- The laws that the proofs cite, and those for callers.
pub mod Parts
pub mod Lines
pub mod Callers
