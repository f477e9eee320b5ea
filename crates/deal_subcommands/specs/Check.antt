-- `check`.
pub mod Options
pub mod Runs
