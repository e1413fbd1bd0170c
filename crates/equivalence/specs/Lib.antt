pub mod Inducing
pub mod FreeState
pub mod NamedState
pub mod Frames
pub mod Rows
pub mod Counterexample
