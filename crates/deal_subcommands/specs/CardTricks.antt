-- `cards`.
pub mod Options
pub mod Played
pub mod Valuing
pub mod Kept
pub mod Refusals
pub mod Audit
pub mod LastFlush
pub mod Runs
