pub mod ConditionTags
pub mod ParText
pub mod TablesText
