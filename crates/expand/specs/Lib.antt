-- What the contracts cite.
pub mod Room
