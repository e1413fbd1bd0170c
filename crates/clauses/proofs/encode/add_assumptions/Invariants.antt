-- `add_assumptions` meets its contract. The invariant: the assumptions that are left are to be added, and there is room for them. Assumes nothing.
use Rattle.std.proofs.Common.{◌≡◌, length}
use Rattle.clauses.specs.AssumptionLaws.{Assuming}
use Rattle.clauses.proofs.encode.add_assumptions.Given as goal

abbrev pub invariant-loop-literal : goal.invariant-loop-literal
invariant-loop-literal l = (length l.words ≡ length l.initial.words) × (length l.scores ≡ length l.initial.scores) × Assuming l.t l.fn.literals l.count l.initial.e l.initial.words l.initial.scores l.e l.words l.scores l.literal-index
