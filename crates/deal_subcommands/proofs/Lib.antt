pub mod AnswerLaws
pub mod CheckLemmas
pub mod LineLemmas
mod PlayedLemmas
pub mod CardAuditLemmas
