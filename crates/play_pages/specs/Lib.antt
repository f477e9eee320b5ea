pub mod Lines
pub mod Answers
pub mod Tasks
pub mod Texts
pub mod Evidence
pub mod Counts
pub mod Making
