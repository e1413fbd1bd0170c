-- `unrolling::variables::literals_by` meets its contract. Assumes nothing.
use Rattle.std.proofs.Common.{◌≡◌, [], ◌*◌, length}
use Rattle.aig.specs.Graph.{graph_of}
use Rattle.aig.specs.Made.{Ready}
use Rattle.unrolling.specs.Matched.{Places, Gives, listed_by}
use Rattle.unrolling.specs.Variables.{Listed}
use Rattle.unrolling.proofs.variables.literals_by.Given as goal

abbrev pub invariant-loop-i : goal.invariant-loop-i
invariant-loop-i g l =
    (length l.words ≡ length l.initial.words) × (length l.literals ≡ 128)
    × ((f : Places) → Gives (goal.F-post g l.known) (l.initial.aig.count * 2) l.n f → Ready l.initial.aig.count l.initial.words
    → Listed l.i l.initial.aig.count l.initial.words l.aig.count l.words l.literals (listed_by l.i f (record { aig = graph_of l.initial.aig.count l.initial.words; literals = [] })))
