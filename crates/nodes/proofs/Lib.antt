-- The laws of a node's children, of the looks for one, and of walks down the tree.
pub mod Rows
mod Looks
pub mod Templates
