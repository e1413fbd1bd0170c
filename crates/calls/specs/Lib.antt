pub mod Faults
pub mod FaultLaws
pub mod Causes
pub mod Options
pub mod Answers
pub mod Positions
