pub mod Bundles
pub mod Searches
