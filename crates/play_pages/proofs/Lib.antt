mod RecordedLaws
mod LineLaws
mod FoundLaws
mod PlayLaws
mod TaskLaws
mod NoteLaws
pub mod Places
mod PieceLaws
