pub mod Each
pub mod FilledParts
pub mod CharTexts
pub mod PlainTexts
