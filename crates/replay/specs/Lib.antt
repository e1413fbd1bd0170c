pub mod ClaimChecks
pub mod ClaimLaws
pub mod ReplayRight
