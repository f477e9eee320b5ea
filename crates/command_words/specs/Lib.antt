pub mod Options
pub mod Rules
pub mod Says
pub mod Proofs
