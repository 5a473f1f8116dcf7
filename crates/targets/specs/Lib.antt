-- What the contracts cite.
pub mod Target
