pub mod Elements
pub mod SheetReading
pub mod Laws
pub mod OneSheet
pub mod PageLaws
pub mod Pages
pub mod Values
pub mod Markup
