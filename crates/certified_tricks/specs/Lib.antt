pub mod FourValues
pub mod Searches
