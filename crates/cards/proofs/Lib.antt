pub mod DeviceLemmas
pub mod NumberLemmas
pub mod WriteLemmas
pub mod PackLaws
pub mod HandLaws
