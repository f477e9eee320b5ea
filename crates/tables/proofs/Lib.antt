pub mod NumberLemmas
pub mod RowLemmas
pub mod TableLemmas
pub mod BoardLemmas
pub mod ConditionLines
pub mod ParLines
pub mod PageBack
