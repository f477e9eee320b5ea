-- `table`.
pub mod Options
pub mod Halts
pub mod Made
pub mod Pages
pub mod Beside
pub mod KeptFiles
pub mod Kept
pub mod Runs
