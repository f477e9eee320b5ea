pub mod Cells
pub mod Tricks
pub mod Games
pub mod Pages
pub mod Places
