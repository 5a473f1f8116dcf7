-- The tree of templates: while it is built, and when it is.
pub mod Nodes
pub mod Built
