-- `begin` answers the refusal of a record, or begins on both designs. Assumes nothing.
use Rattle.std.proofs.Common.{◌∙◌}
use Rattle.pair.specs.PairReadingLaws.{pair-refused, pair-accepted}
use Rattle.stepping.specs.SteppingRight.{refused-begun, begin_unread, begin-read}
use Rattle.stepping.proofs.stepping.begin.Goals as goal

pub returns-in-Err : goal.returns-in-Err
returns-in-Err c =
    let a = c.args in
    refused-begun _ _ a.position a.bits.now c.from-answer.ensures
    ∙ begin_unread a.gold.now a.gate.now _ a.bits.now _
    (pair-refused a.gold.now a.gate.now c.read_pair-read.result c.read_pair-read.ensures _ c.in-Err.is)

pub returns-in-Ok : goal.returns-in-Ok
returns-in-Ok c =
    let a = c.args in
    c.begin_pair.ensures
    ∙ begin-read a.gold.now a.gate.now _ a.bits.now _ _
    (pair-accepted a.gold.now a.gate.now c.read_pair-read.result c.read_pair-read.ensures _ c.in-Ok.is)
