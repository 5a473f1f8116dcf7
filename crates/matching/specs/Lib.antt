-- What the contracts cite.
pub mod Book
pub mod Matches
