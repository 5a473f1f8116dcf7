-- Laws of the run over the input.
mod Reading
mod Lines
mod Whole
