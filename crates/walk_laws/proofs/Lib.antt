-- Laws of the checker's logic for a proof by hand, a walk, which follows a function's code step by step to its contract: locals, loans of a slice of structs, calls, loops and the exit.
pub mod Exit
pub mod Call
pub mod Rules
pub mod Gather
pub mod Parts
pub mod Loops
pub mod Locals
pub mod Again
pub mod Arrays
pub mod Numbers
pub mod Walk
