-- What the contracts cite.
pub mod Added
pub mod Prints
