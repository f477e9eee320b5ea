pub mod Words
pub mod Lines
pub mod Texts
pub mod PlayText
pub mod Trails
pub mod Dialogues
pub mod Conversing
