mod BoardLaws
mod AnswerLaws
mod TaskLaws
mod NoteLaws
