-- What the contracts cite.
pub mod Meets
