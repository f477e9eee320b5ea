-- `line`.
pub mod Options
pub mod Runs
