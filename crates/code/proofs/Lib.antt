-- The laws that the proofs cite: of tokens, and of whole lines.
pub mod Lines
