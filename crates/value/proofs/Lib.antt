-- Laws, in order.
pub mod Firsts
pub mod Names
pub mod Operands
pub mod Levels
