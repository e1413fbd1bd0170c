pub mod LentBits
pub mod LentBitsLaws
pub mod SteppingRight
