-- The and-inverter graph: what its operations mean, and that an import twice adds nothing. Assumes nothing.
pub mod Values
pub mod Operations
pub mod Import
pub mod Size
