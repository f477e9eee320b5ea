pub mod CardValues
pub mod Tricks
pub mod AfterClaims
pub mod BegunClaims
pub mod Judging
pub mod Texts
