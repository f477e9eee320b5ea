pub mod BestCards
pub mod Judging
pub mod Searches
