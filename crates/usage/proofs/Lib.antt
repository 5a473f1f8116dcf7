-- Laws that the proofs here and in other crates cite.
pub mod Counts
pub mod Report
