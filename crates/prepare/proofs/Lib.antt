-- What the proof of prepare cites.
pub mod Trees
