-- `depths::prove::deepen` meets its contract. The invariant: the depths that are left give the outcome of all. Assumes nothing.
use Rattle.std.proofs.Common.{◌-◌}
use Rattle.depths.specs.Depths.{Left}
use Rattle.depths.proofs.prove.deepen.Given as goal

abbrev pub invariant-loop-depth : goal.invariant-loop-depth
invariant-loop-depth l = Left l.problem l.limit l.max_depth l.initial.words l.initial.trace l.initial.most (l.depth - 1) l.words l.trace l.most
