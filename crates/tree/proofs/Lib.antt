-- The tree while it is built.
mod Nodes
mod Room
mod Standing
mod Known
mod Growth
mod Filling
-- The tree that is built.
mod Elements
mod Exact
pub mod Built
