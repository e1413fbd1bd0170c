pub mod Most
pub mod Deciding
pub mod Depths
pub mod Beginning
