pub mod Trace
pub mod Values
pub mod Writing
pub mod Cycles
