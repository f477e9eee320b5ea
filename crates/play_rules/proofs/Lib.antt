pub mod HistoryLaws
pub mod HoldingLaws
pub mod LeftLaws
pub mod PositionLaws
pub mod TrickLaws
