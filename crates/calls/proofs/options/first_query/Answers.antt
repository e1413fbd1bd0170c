-- The first query of depth 1 is 0 or 1 by the mode that is asked for. Assumes nothing.
use Rattle.model.specs.Options.{first_query}
use Rattle.calls.proofs.options.first_query.Goals as goal

-- src/options.rt: the mode is on
pub returns-then-earliest : goal.returns-then-earliest
unfolding first_query
returns-then-earliest c = rw c.if-earliest.true

-- src/options.rt: it is off
pub returns-else-earliest : goal.returns-else-earliest
unfolding first_query
returns-else-earliest c = rw c.if-earliest.false
