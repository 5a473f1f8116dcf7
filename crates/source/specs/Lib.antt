-- What the contracts cite.
pub mod Argument
pub mod Trouble
