-- Laws that the proofs here and in other crates cite.
pub mod Same
pub mod Pasted
pub mod Written
pub mod Decimal
