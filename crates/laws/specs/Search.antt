-- The search: trail, reasons, watches, propagation, analysis, learning; its answers are right, it ends, and what it learns is counted. Assumes nothing.
-- what is assigned, why, and how it is undone
pub mod Values
pub mod Clauses
pub mod Trail
pub mod Backtrack
pub mod Reasons
-- watches, the invariant of the search, and propagation
pub mod Watches
pub mod Listed
pub mod State
pub mod Replacement
pub mod Visit
pub mod Propagation
-- the analysis of a conflict, and the clause learned of it
pub mod Scores
pub mod Sorting
pub mod Marks
pub mod Seeing
pub mod Resolvent
pub mod Analysis
pub mod Learning
-- a round, and the start from the encoding of a graph
pub mod Choice
pub mod Loop
pub mod Step
pub mod Adding
pub mod Encode
pub mod Start
-- its answers are right
pub mod Encoding
pub mod Model
-- it ends, and what it learns is counted
pub mod Pigeonhole
pub mod Rounds
pub mod Growth
pub mod Total
pub mod Ending
pub mod Limits
-- every state that it reaches
pub mod Counts
pub mod Reachable
