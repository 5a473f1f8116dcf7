-- What the contracts cite.
pub mod Leaves
