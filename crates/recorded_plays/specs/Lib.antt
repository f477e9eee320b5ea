pub mod Words
pub mod Slots
pub mod Follow
pub mod Sections
pub mod Games
pub mod Values
pub mod Written
pub mod Laws
