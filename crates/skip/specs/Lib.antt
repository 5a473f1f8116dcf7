-- What the contracts cite.
pub mod Skips
