mod NumberLemmas
mod PlayLemmas
mod ClaimLemmas
mod SectionLemmas
mod WriteParts
mod WholeLemmas
mod AnswerLemmas
