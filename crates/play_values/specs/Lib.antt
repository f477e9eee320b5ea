pub mod PlayValues
pub mod Recordings
pub mod Rests
pub mod Laws
