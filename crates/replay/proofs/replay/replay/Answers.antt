-- `replay` answers the refusal of a record, or replays on both designs. Assumes nothing.
use Rattle.std.proofs.Common.{◌∙◌}
use Rattle.pair.specs.PairReadingLaws.{pair-refused, pair-accepted}
use Rattle.replay.specs.ReplayRight.{read-refused, read-accepted}
use Rattle.replay.proofs.replay.replay.Goals as goal

pub returns-in-Err : goal.returns-in-Err
returns-in-Err c =
    let a = c.args in
    c.from.ensures
    ∙ read-refused a.gold.now a.gate.now a.cycle a.claim.now _ (pair-refused a.gold.now a.gate.now c.read_pair-read.result c.read_pair-read.ensures _ c.in-Err.is)

pub returns-in-Ok : goal.returns-in-Ok
returns-in-Ok c =
    let a = c.args in
    c.replay_pair.ensures
    ∙ read-accepted a.gold.now a.gate.now a.cycle a.claim.now _ _ (pair-accepted a.gold.now a.gate.now c.read_pair-read.result c.read_pair-read.ensures _ c.in-Ok.is)
