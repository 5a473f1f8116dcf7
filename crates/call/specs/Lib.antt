-- What the contracts cite.
pub mod Call
pub mod Params
pub mod Line
