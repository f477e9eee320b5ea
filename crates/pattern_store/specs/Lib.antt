pub mod Blocks
pub mod Lengths
pub mod Record
pub mod Records
pub mod Shapes
pub mod Stores
