-- `aig::Aig::earlier` meets its contract. Assumes nothing.
use Rattle.std.proofs.Common.{◌≡◌, ◌≤◌, ◌<◌, get_or}
use Rattle.words.specs.Layout.{GRAPH-LHS, GRAPH-RHS}
use Rattle.words.specs.Region.{region}
use Rattle.aig.specs.Index.{chained}
use Rattle.aig.proofs.Aig.earlier.Given as goal

abbrev pub invariant-loop-at : goal.invariant-loop-at
invariant-loop-at l =
    (l.at ≤ l.initial.at) × (0 < l.at → get_or (region GRAPH-RHS l.words) l.at 0 ≡ l.rhs)
    × (chained (region GRAPH-LHS l.words) (region GRAPH-RHS l.words) l.lhs l.rhs l.at ≡ chained (region GRAPH-LHS l.words) (region GRAPH-RHS l.words) l.lhs l.rhs l.initial.at)

abbrev pub decreases-loop-at : goal.decreases-loop-at
decreases-loop-at l = l.at
