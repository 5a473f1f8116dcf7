-- Laws, in order. Callers take theirs from Callers.
pub mod Walk
pub mod Seeking
pub mod Packed
pub mod Placed
pub mod Holding
pub mod Cleared
pub mod Replaced
pub mod Appended
pub mod Writing
pub mod Listed
pub mod Callers
pub mod Answering
