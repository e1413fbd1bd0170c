-- `step` answers the refusal of a record, or goes one step on both designs. Assumes nothing.
use Rattle.std.proofs.Common.{◌∙◌}
use Rattle.pair.specs.PairReadingLaws.{pair-refused, pair-accepted}
use Rattle.stepping.specs.SteppingRight.{refused-left, step_unread, step-read}
use Rattle.stepping.proofs.stepping.step.Goals as goal

pub returns-in-Err : goal.returns-in-Err
returns-in-Err c =
    let a = c.args in
    refused-left _ _ a.position a.bits.now c.from.ensures
    ∙ step_unread a.gold.now a.gate.now a.cycle a.claim.now _ a.bits.now _
    (pair-refused a.gold.now a.gate.now c.read_pair-read.result c.read_pair-read.ensures _ c.in-Err.is)

pub returns-in-Ok : goal.returns-in-Ok
returns-in-Ok c =
    let a = c.args in
    c.step_pair.ensures
    ∙ step-read a.gold.now a.gate.now a.cycle a.claim.now _ a.bits.now _ _
    (pair-accepted a.gold.now a.gate.now c.read_pair-read.result c.read_pair-read.ensures _ c.in-Ok.is)
