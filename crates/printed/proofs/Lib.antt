-- Laws that the proofs cite.
pub mod Adding
pub mod Rows
