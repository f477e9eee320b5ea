pub mod Requests
pub mod Replays
pub mod Replaying
pub mod Asking
pub mod Working
