-- What the contracts cite.
pub mod Decoding
pub mod Counting
