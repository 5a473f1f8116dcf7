-- Values as numbers: what the code computes with, and how they are written.
pub mod Number
pub mod Run
