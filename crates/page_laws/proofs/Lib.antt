pub mod TablesPageLaws
pub mod WholePageLaws
pub mod SheetLaws
pub mod ReadingLaws
