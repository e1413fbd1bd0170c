pub mod RunTables
pub mod RunLaws
pub mod RowLaws
pub mod TableLaws
