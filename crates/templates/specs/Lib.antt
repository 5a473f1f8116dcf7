-- How many beginnings templates have, their keys, and their order.
pub mod Count
pub mod Keys
pub mod Order
pub mod Unique
pub mod Listed
