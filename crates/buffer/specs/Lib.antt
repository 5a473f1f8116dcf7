-- What the contracts cite.
pub mod Pasted
pub mod Written
pub mod Decimal
