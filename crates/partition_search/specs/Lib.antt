pub mod Cards
pub mod Seats
pub mod Tricks
