-- The row of nodes, how a child is found in it, and the templates' tree that it holds.
pub mod Rows
pub mod SideBySide
