pub mod Statuses
pub mod NamedFiles
pub mod Explanations
pub mod Telling
