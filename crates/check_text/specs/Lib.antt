-- What the contracts cite.
pub mod Files
