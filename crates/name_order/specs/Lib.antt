pub mod NameLaws
pub mod PlaceLaws
pub mod Places
pub mod PortLaws
