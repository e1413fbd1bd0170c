-- `pivot_index` meets its contract. The invariant: the places that are left decide where the pivot is. Assumes nothing.
use Rattle.std.proofs.Common.{◌≡◌}
use Rattle.analysis.specs.RoundLaws.{pivot_from}
use Rattle.analysis.proofs.resolve.pivot_index.Given as goal

abbrev pub invariant-loop-i : goal.invariant-loop-i
invariant-loop-i l = pivot_from l.stamp l.fn.t l.words l.i ≡ pivot_from l.stamp l.fn.t l.words l.end
