-- `all_below` is the definition's test of all literals. Assumes nothing.
use Rattle.std.proofs.Common.{◌≡◌, drop}
use Rattle.solver.specs.Query.{all_below}
use Rattle.solver.proofs.all_below.Given as goal

abbrev pub invariant-loop-literal : goal.invariant-loop-literal
invariant-loop-literal l = all_below l.bound l.literals ≡ all_below l.bound (drop l.literal-index l.literals)
