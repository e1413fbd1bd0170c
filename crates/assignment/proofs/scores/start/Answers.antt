-- `start` meets its contract: the bits of the three numbers. Assumes nothing.
use Rattle.std.proofs.Common.{refl}
use lib.Ieee as Ieee
use Rattle.model.specs.Sat as Sat
use Rattle.assignment.proofs.scores.start.Goals as goal

pub returns : goal.returns
unfolding Sat.score_one Sat.decay Sat.ceiling Ieee.of_bits
returns c = record { increment = refl; fixed = record { decay = refl; ceiling = refl } }
