-- The laws of calls.
pub mod Calls
pub mod Opening
pub mod Loops
pub mod Line
pub mod Reading
