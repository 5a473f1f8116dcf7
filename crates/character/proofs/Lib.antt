-- The laws that the proofs cite.
pub mod Decoding
pub mod Counting
