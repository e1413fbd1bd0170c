-- `nodes_per_cycle` is the specification's F. Assumes nothing.
use Rattle.std.proofs.Common.{refl, arith}
use Rattle.refusals.specs.Refusals.{frames_by}
use Rattle.refusals.proofs.nodes_per_cycle.Goals as goal

pub returns : goal.returns
unfolding frames_by
returns c = (refl, omega arith)
