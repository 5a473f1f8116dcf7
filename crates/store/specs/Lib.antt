-- What the contracts cite.
pub mod Memory
pub mod Filled
pub mod Clean
pub mod Seek
pub mod Put
pub mod List
pub mod Names
