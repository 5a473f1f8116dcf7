-- What the contracts of reading a code line say.
pub mod Tokens
