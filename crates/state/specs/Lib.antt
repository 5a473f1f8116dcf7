-- What the contracts cite.
pub mod State
