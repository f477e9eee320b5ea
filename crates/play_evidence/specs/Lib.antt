pub mod Sections
pub mod SectionTexts
pub mod Readings
pub mod Wholes
pub mod Answers
