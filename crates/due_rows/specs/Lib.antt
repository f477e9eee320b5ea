pub mod Moments
pub mod Trees
