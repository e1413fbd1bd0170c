pub mod Firsts
pub mod Gate
pub mod Walk
pub mod Step
pub mod Driver
pub mod Nodes
pub mod Registers
pub mod System
