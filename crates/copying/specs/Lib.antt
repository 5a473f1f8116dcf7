-- What the contracts cite.
pub mod Copies
