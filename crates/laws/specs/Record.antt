-- Records: what the reader leaves, and what an accepted design has. Assumes nothing.
pub mod Kinds
pub mod Reader
pub mod Ports
pub mod Limits
pub mod KindBytes
pub mod Accepted
pub mod Valid
pub mod ClockRead
