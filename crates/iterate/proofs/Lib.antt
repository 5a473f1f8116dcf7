-- The laws of iterations.
pub mod Passes
pub mod Repeats
