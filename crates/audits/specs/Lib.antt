pub mod Shown
pub mod Firsts
pub mod Boards
pub mod Reads
pub mod Grants
pub mod Batches
pub mod Shows
pub mod Audits
