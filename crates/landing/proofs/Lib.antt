-- Laws of landing.
pub mod Leaves
