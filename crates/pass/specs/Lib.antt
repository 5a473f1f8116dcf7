-- What the contracts cite.
pub mod Pass
