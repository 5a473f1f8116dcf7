-- What the contracts cite.
pub mod Counts
