-- `solve`.
pub mod Options
pub mod Runs
