-- Laws of the cycle.
mod Events
pub mod Ways
