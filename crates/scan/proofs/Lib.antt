-- Laws of lines and bodies; then what the functions' proofs cite.
pub mod Lines
pub mod Places
pub mod FlagLine
