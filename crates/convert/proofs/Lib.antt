-- The laws that the proofs cite.
pub mod Appending
pub mod Adding
pub mod Symbols
pub mod Converting
