-- `push_learned` meets its contract. The invariant: the first literals are in the pool. Assumes nothing.
use Rattle.sat.specs.LearnLaws.{Pushing}
use Rattle.sat.proofs.learn.push_learned.Given as goal

abbrev pub invariant-loop-i : goal.invariant-loop-i
invariant-loop-i l = Pushing l.store l.t l.start l.count l.initial.words l.i l.words
