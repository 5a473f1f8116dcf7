-- What the contracts cite.
pub mod Bits
