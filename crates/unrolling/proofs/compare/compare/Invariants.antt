-- `unrolling::compare::compare` meets its contract. Assumes nothing.
use Rattle.std.proofs.Common.{◌≡◌, ◌*◌, length}
use Rattle.aig.specs.Graph.{graph_of}
use Rattle.aig.specs.Made.{Ready, Made}
use Rattle.model.specs.Equivalence.{compare_pairs}
use Rattle.unrolling.specs.Matched.{Places, Gives}
use Rattle.unrolling.specs.Naming.{paired_by}
use Rattle.unrolling.proofs.compare.compare.Given as goal

abbrev pub invariant-loop-i : goal.invariant-loop-i
invariant-loop-i g l =
    (length l.words ≡ length l.initial.words)
    × ((f : Places) → Gives (goal.F-post g l.other) (l.initial.aig.count * 2) l.n f → Ready l.initial.aig.count l.initial.words
    → Made (4 * l.i) l.initial.aig.count l.initial.words l.aig.count l.words l.mismatch.0 (compare_pairs (graph_of l.initial.aig.count l.initial.words) (paired_by l.i f l.literals)))
