pub mod TellLemmas
mod ExplainLaws
