pub mod Shifting
pub mod Counting
pub mod Deciding
pub mod Minimax
pub mod Planning
pub mod LawProofs
pub mod SearchProofs
pub mod UniqueProofs
