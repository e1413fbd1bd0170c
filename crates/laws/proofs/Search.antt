-- The search of a query: its reachable states, what it reaches and what it answers. Assumes nothing.
pub mod Reachable
pub mod Reached
pub mod Answered
