-- What the contracts cite.
pub mod Expands
