-- What the contracts cite.
pub mod Inner
