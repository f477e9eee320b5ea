pub mod TrickLemmas
pub mod LayoutLaws
pub mod LeftLaws
pub mod PatCardLaws
pub mod TrickLaws
pub mod TurnLaws
pub mod PlaceLaws
pub mod TopPlaces
pub mod TrickBitLaws
pub mod RunLaws
mod StandInLaws
