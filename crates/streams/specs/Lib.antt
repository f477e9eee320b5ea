pub mod Flushes
pub mod Inputs
pub mod RunStreams
pub mod Opening
