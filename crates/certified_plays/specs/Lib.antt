pub mod Proofs
pub mod Judging
pub mod Values
pub mod Searches
