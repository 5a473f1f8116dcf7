-- What an outcome says of a search, and the chosen reading.
pub mod Outcome
pub mod Chosen
