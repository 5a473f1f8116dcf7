-- What an answer says, and why the functions of loading ensure what they do.
pub mod Answer
pub mod Laws
pub mod Macros
