-- What the functions of this crate ensure.
pub mod Lines
