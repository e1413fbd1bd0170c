-- The check: its refusals, and the laws of demand 3 that rest on them alone; the others stand in proofs/. Assumes nothing.
-- refusals, and the call's numbers and memory
pub mod Refusals
pub mod Call
pub mod Reading
-- a replay beside the check's refusals
pub mod Replaying
-- a design against itself
pub mod Self
