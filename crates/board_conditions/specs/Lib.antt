pub mod Numbers
pub mod Words
pub mod Games
pub mod Titles
pub mod Values
