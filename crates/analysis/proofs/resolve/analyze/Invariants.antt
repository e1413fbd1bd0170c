-- `analyze` meets its contract. The invariant: the rounds that are left decide. Assumes nothing.
use Rattle.analysis.specs.AnalyzeLaws.{Resolving}
use Rattle.analysis.proofs.resolve.analyze.Given as goal

abbrev pub invariant-loop-a : goal.invariant-loop-a
invariant-loop-a l =
    Resolving l.clauses l.t l.conflict l.initial.a.activity l.initial.words l.initial.scores l.a l.words l.scores l.trail_index l.clause l.resolved l.rounds

abbrev pub decreases-loop-a : goal.decreases-loop-a
decreases-loop-a l = l.rounds
