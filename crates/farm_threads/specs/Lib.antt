pub mod Beside
pub mod Promises
pub mod Posts
