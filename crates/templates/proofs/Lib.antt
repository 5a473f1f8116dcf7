-- How many beginnings templates have.
pub mod Count
mod Matching
-- Their keys.
pub mod Keys
-- Their order, and the test of two of them.
pub mod Order
mod Comparing
-- The template at a place of the order, the place of a new one, and the runs of those that have one key at a place.
mod Placed
mod Finding
mod Runs
