-- What the contracts cite.
pub mod Built
