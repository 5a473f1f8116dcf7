-- What a prepared text is.
pub mod Prepares
