pub mod Sums
pub mod Parts
pub mod Moves
pub mod Whole
pub mod Joining
pub mod RelayLaws
