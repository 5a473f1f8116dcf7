-- Laws that the proofs here and in other crates cite.
pub mod Added
pub mod Prints
