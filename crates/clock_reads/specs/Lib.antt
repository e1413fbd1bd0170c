pub mod Marks
pub mod Reads
pub mod MarkLaws
pub mod ReadLaws
pub mod ClockReadLaws
