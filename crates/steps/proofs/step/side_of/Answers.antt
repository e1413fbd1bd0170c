-- `side_of` makes both tables. Assumes nothing.
use Rattle.std.proofs.Common.{refl}
use Rattle.steps.proofs.step.side_of.Goals as goal

pub returns : goal.returns
returns c = (refl, refl, record { ranked = c.input_ranks-ranks.ensures; driven = c.drivers-table.ensures })
