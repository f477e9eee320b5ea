pub mod BestLaws
pub mod ClaimLaws
mod ListLaws
mod PathLaws
mod PlayLaws
pub mod ShowLaws
