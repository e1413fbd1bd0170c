-- `replacement` meets its contract. The invariant: the literals from here on decide. Assumes nothing.
use Rattle.std.proofs.Common.{◌≤◌}
use Rattle.clauses.specs.ClauseLaws.{Left}
use Rattle.clauses.specs.State.{Watchable}
use Rattle.clauses.proofs.clause.replacement.Given as goal

abbrev pub invariant-loop-at : goal.invariant-loop-at
invariant-loop-at l = (l.c.start ≤ l.at) × ((k : Watchable l.t l.words l.c) → Left l.t l.words l.c k l.at)
