-- The laws of a code line.
pub mod Endings
pub mod Carrying
pub mod Events
pub mod Stepping
