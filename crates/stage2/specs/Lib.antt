-- What the contracts of the inner functions say.
pub mod Answers
pub mod Rooms
