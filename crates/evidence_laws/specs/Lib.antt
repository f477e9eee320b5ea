pub mod Laws
pub mod Parts
pub mod CardLaws
pub mod AddedLaws
pub mod Answers
pub mod Solves
