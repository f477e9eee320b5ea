pub mod Strategies
pub mod Values
pub mod Laws
