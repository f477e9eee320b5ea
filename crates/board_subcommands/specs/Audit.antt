-- `audit`.
pub mod Options
pub mod Runs
