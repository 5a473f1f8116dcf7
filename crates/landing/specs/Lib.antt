-- What the contracts cite.
pub mod Landing
