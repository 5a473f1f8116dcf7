-- The laws of copying.
mod Measured
mod Lines
