pub mod Query
pub mod QueryLaws
pub mod Built
