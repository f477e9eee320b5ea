pub mod CardLaws
pub mod LengthLaws
pub mod SetLaws
pub mod TrickLaws
