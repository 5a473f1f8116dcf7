-- What the contracts cite.
pub mod Iterate
