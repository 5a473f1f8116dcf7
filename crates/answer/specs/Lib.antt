-- What the contracts cite.
pub mod Answers
pub mod Kept
