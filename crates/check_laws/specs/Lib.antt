pub mod Begun
pub mod Laws
pub mod TextLaws
pub mod PatternLaws
