pub mod Proving
pub mod ResultLaws
pub mod Results
pub mod Room
pub mod SideLaws
pub mod Sides
