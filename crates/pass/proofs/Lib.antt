-- The laws of a pass.
pub mod Pieces
