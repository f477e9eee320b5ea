-- `play`.
pub mod Options
pub mod Runs
