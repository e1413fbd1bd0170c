-- `see_literals` meets its contract. The invariant: the literals that are left decide. Assumes nothing.
use Rattle.analysis.specs.SeeLaws.{seeing_step, seeing_end}
use Rattle.analysis.proofs.resolve.see_literals.Goals as goal

pub loop-i-preserved : goal.loop-i-preserved
loop-i-preserved c =
    seeing_step _ _ _ _ _ _ _ c.requires.3 c.requires.1 c.requires.4 _ _ _ _ _ _ _ _ c.loop-i.invariant c.loop-i-test.true c.load.ensures c.see_literal-a.ensures c.see_literal-a.auto.words

pub returns : goal.returns
returns c =
    seeing_end _ _ _ _ _ _ _ c.requires.3 c.requires.1 c.requires.4 _ _ _ _ c.loop-i.invariant c.loop-i-test.false
