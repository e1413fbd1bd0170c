-- `push_learned` meets its contract. The invariant: the first literals are in the pool. Assumes nothing.
use Rattle.sat.specs.LearnLaws.{pushing_step}
use Rattle.sat.proofs.learn.push_learned.Goals as goal

pub loop-i-preserved : goal.loop-i-preserved
loop-i-preserved c =
    pushing_step _ _ _ _ _ _ _ _ _ c.requires.2 c.loop-i.invariant c.loop-i-test.true c.load.ensures c.push_literal.ensures c.push_literal.auto.words
