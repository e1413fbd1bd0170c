-- `depths::prove::before_query_1` meets its contract. Assumes nothing.
use Rattle.std.proofs.Common.{ap, ℕ}
use Rattle.calls.specs.Answers.{asked_of}
use Rattle.model.specs.Answers.{Asked}
use Rattle.depths.specs.Beginning.{asked_0, begins_0, begins-none}
use Rattle.depths.proofs.prove.before_query_1.Goals as goal

-- a query of depth 1 without a literal
abbrev begun : ℕ → Asked
begun k = record { depth = 1; query = k; learned = 0 }

pub query_0-requires : goal.query_0-requires
query_0-requires c = asked_0 _ _ _ _ _ _ c.requires

pub returns-then-earliest : goal.returns-then-earliest
unfolding asked_of
returns-then-earliest c =
    begins_0 _ _ _ _ _ _ _ _ _ _ c.if-earliest.true c.requires.some (ap begun c.first_query-query.ensures) c.query_0.ensures

pub returns-else-earliest : goal.returns-else-earliest
unfolding asked_of
returns-else-earliest c = begins-none _ _ _ _ _ _ _ c.if-earliest.false (ap begun c.first_query-query.ensures)
