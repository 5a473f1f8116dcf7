-- What the contract cites.
pub mod Carries
