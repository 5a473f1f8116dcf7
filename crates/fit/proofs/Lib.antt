-- The laws of the search's steps, of a place taken up by them, and of the chosen reading; callers use can_fit.
mod Steps
mod Taken
mod Few
mod Pieces
mod Trees
mod Stored
pub mod Choose
pub mod Asking
