-- `choose_variable` meets its contract. The invariant: the best of the blocks so far, and what their words say holds. Assumes nothing.
use Rattle.std.proofs.Common.{arith}
use Rattle.assignment.specs.ChooseLaws.{choosing_step, chooses_none, chooses_one}
use Rattle.assignment.proofs.choice.choose_variable.Goals as goal

pub loop-block-preserved : goal.loop-block-preserved
loop-block-preserved c =
    choosing_step _ _ _ _ _ _ _ _ _ c.requires.1 c.requires.3 (omega (arith, c.loop-block-test.true, c.div_ceil-block-end.ensures)) c.loop-block.invariant c.block_choice-choice.ensures c.block_choice-choice.auto.words c.higher-best.ensures

pub returns-then-best-eq0 : goal.returns-then-best-eq0
returns-then-best-eq0 c =
    chooses_none _ _ _ _ _ _ c.requires.0 c.requires.1 c.requires.3 c.loop-block.invariant (omega (arith, c.loop-block-test.false, c.div_ceil-block-end.ensures)) c.if-best-eq0.true

pub returns-else-best-eq0 : goal.returns-else-best-eq0
returns-else-best-eq0 c =
    chooses_one _ _ _ _ _ _ c.requires.0 c.requires.1 c.requires.3 c.loop-block.invariant (omega (arith, c.loop-block-test.false, c.div_ceil-block-end.ensures)) c.if-best-eq0.false
