-- `highest_level` meets its contract. The invariant: the highest so far and the literals that are left decide. Assumes nothing.
use Rattle.analysis.specs.LearnedLaws.{rising_step, risen}
use Rattle.analysis.proofs.learned.highest_level.Goals as goal

pub loop-i-preserved : goal.loop-i-preserved
loop-i-preserved c =
    rising_step _ _ _ _ _ _ _ _ c.requires.0.words c.requires.1 c.loop-i.invariant c.loop-i-test.true c.load.ensures c.level_of.ensures c.max-highest.ensures

pub returns : goal.returns
returns c =
    risen _ _ _ _ _ c.requires.0.words c.requires.1 c.loop-i.invariant c.loop-i-test.false
