-- `better` meets its contract: by the variable's word. Assumes nothing.
use Rattle.assignment.specs.ChooseLaws.{better_not, better_free}
use Rattle.assignment.proofs.choice.better.Goals as goal

pub returns-then-load_below-eq0 : goal.returns-then-load_below-eq0
returns-then-load_below-eq0 c =
    better_free _ _ _ _ _ _ c.load_below.ensures c.requires.1 c.requires.5 c.requires.2 c.requires.3 c.requires.4 _ c.if-load_below-eq0.true c.higher.ensures

pub returns-else-load_below-eq0 : goal.returns-else-load_below-eq0
returns-else-load_below-eq0 c =
    better_not _ _ _ _ _ _ c.load_below.ensures c.requires.1 c.requires.5 c.requires.2 c.requires.3 c.requires.4 c.if-load_below-eq0.false
