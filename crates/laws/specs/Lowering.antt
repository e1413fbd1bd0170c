-- The lowering: a transition system runs as its design does. Assumes nothing.
pub mod SystemRun
pub mod Lists
pub mod Walk
pub mod Shape
pub mod Registers
pub mod Fits
pub mod Run
pub mod Rows
pub mod Pair
