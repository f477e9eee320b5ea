pub mod HeadLemmas
pub mod RowLemmas
pub mod SectionLemmas
pub mod TitleLemmas
pub mod CardSectionLemmas
pub mod PartLaws
pub mod AnswerLaws
pub mod SolveLemmas
