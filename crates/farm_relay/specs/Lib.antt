pub mod Items
pub mod Tallies
pub mod Rule
pub mod Steps
pub mod Relays
pub mod Opening
pub mod Closing
