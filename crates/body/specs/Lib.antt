-- What the contracts of passing over code lines say.
pub mod Steps
