-- `plain`.
pub mod Options
pub mod Runs
