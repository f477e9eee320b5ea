pub mod Leads
pub mod Answers
pub mod Tasks
pub mod Texts
pub mod Making
