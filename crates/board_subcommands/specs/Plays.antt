-- `plays`.
pub mod Forms
pub mod Options
pub mod Notes
pub mod Games
pub mod Kept
pub mod Audit
pub mod Ends
pub mod Runs
