-- The queries: what their graphs ask, how large they are, and the trace that query 1 leaves. Assumes nothing.
-- a cycle, and the cycles of each query
pub mod Frame
pub mod Bits
pub mod Cycles
-- every question is reached: values of the variables for every input sequence and every pair of states
pub mod Inputs
pub mod States
-- so they ask Induction's questions
pub mod Base
pub mod Step
-- their graphs, and the trace
pub mod Variables
pub mod Formed
pub mod Bound
pub mod Trace
pub mod Replayed
-- a system against itself
pub mod Self
