pub mod TablesPages
pub mod WholePages
pub mod SheetPages
pub mod Readings
pub mod ReplayedTables
