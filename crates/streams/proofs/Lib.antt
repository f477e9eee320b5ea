pub mod InputLemmas
pub mod ReadLaws
