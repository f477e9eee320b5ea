pub mod AddLaws
pub mod ClaimLaws
