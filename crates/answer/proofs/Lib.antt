-- Laws of answers.
pub mod Following
pub mod Coming
pub mod Expansion
