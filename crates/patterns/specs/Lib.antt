pub mod Shapes
pub mod Parts
pub mod Holders
pub mod Words
pub mod Holdings
pub mod WordLaws
pub mod Removals
pub mod Completions
