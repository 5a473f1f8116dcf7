-- What the functions of loading ensure: the answer, what the head comes to, what a line comes to, and the section line by line.
pub mod Answer
pub mod Head
pub mod Lines
pub mod Template
pub mod Body
pub mod Section
