-- Laws of what is written.
pub mod Fields
pub mod Lines
