pub mod PlainTexts
pub mod CellLemmas
pub mod HandLemmas
pub mod ResultLemmas
pub mod ParPlain
pub mod ParLemmas
pub mod BoardsInTurn
