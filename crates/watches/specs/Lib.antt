pub mod State
pub mod VisitLaws
pub mod PropagateLaws
pub mod UnitLaws
