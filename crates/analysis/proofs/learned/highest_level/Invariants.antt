-- `highest_level` meets its contract. The invariant: the highest so far and the literals that are left decide. Assumes nothing.
use Rattle.analysis.specs.LearnedLaws.{Rising}
use Rattle.analysis.proofs.learned.highest_level.Given as goal

abbrev pub invariant-loop-i : goal.invariant-loop-i
invariant-loop-i l = Rising l.t l.words l.count l.highest l.i
