pub mod Opening
pub mod Kept
pub mod Tails
pub mod Claims
pub mod Added
pub mod Pending
