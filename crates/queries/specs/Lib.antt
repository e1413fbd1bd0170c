pub mod Problem
pub mod Untouched
pub mod Asking
pub mod Querying
pub mod Finding
