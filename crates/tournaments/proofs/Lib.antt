pub mod CompleteCounts
pub mod PutLaws
pub mod ParLaws
