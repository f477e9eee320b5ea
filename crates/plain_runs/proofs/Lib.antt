pub mod PlaceLaws
pub mod FirstGoodLaws
pub mod VerdictLaws
pub mod ReplayLaws
pub mod FreeLaws
pub mod WorkLaws
