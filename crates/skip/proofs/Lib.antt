-- The laws of skips.
pub mod Skipping
