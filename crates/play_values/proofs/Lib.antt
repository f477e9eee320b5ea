pub mod LegalLaws
pub mod RestLaws
pub mod ValueLaws
mod KeptLaws
pub mod WholeLaws
mod WordLaws
