-- What the contracts cite.
pub mod Output
pub mod Layout
