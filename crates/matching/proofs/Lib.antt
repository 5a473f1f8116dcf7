-- Laws of matching a line.
pub mod Counting
pub mod Deciding
pub mod Matching
