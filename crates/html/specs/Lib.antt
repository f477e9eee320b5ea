pub mod Values
pub mod Places
pub mod Templates
pub mod PlainTemplates
pub mod Plain
