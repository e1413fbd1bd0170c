pub mod Drivers
pub mod DriverLaws
