pub mod Sections
pub mod SectionTexts
pub mod Readings
