pub mod Shortcut
pub mod Graph
pub mod Index
pub mod Made
pub mod Lookup
pub mod Operations
pub mod Side
