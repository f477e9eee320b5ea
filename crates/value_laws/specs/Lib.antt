pub mod CardLaws
pub mod ValuesAfter
pub mod ParLaws
pub mod LayoutLaws
pub mod LossLaws
