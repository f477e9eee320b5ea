mod RuleLemmas
pub mod SaysLemmas
