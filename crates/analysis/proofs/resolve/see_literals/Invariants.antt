-- `see_literals` meets its contract. The invariant: the literals that are left decide. Assumes nothing.
use Rattle.analysis.specs.SeeLaws.{Seeing}
use Rattle.analysis.proofs.resolve.see_literals.Given as goal

abbrev pub invariant-loop-i : goal.invariant-loop-i
invariant-loop-i l = Seeing l.t l.resolved l.start l.end l.initial.a l.initial.words l.initial.scores l.i l.a l.words l.scores
