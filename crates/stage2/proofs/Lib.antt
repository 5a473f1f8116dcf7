-- What the proofs of the calls cite.
pub mod Results
pub mod Demanded
