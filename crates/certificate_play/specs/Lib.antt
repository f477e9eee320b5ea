pub mod Promises
pub mod Branches
pub mod Steps
pub mod OwnCards
pub mod Sides
