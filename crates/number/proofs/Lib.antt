-- Laws that the proofs here and in other crates cite.
pub mod Signed
pub mod Steps
pub mod Compared
pub mod Digits
pub mod Writing
