-- `begin_pair` answers the first refusal, or begins. Assumes nothing.
use Rattle.std.proofs.Common.{sym, ◌∙◌}
use Rattle.calls.specs.Causes.{fault_of}
use Rattle.model.specs.Stepping.{begin_fault}
use Rattle.stepping.specs.LentBitsLaws.{begin-long}
use Rattle.stepping.specs.SteppingRight.{refused-begun, begin-refused, begin-accepted}
use Rattle.stepping.proofs.stepping.begin_pair.Goals as goal

pub begin_accepted-requires : goal.begin_accepted-requires
unfolding fault_of
begin_accepted-requires c =
    let p = c.args.pair.now in
    (p.gold.sided.valid.within.sized, p.gate.sided.valid.within.sized, begin-long _ _ _ (sym c.in-Ok.ensures))

pub returns-in-Err : goal.returns-in-Err
unfolding fault_of
returns-in-Err c =
    refused-begun _ _ _ _ c.from-answer.ensures ∙ begin-refused _ _ _ _ (begin_fault _ _ _) _ (sym c.in-Err.ensures)

pub returns-in-Ok : goal.returns-in-Ok
unfolding fault_of
returns-in-Ok c =
    let p = c.args.pair.now in
    c.begin_accepted.ensures p.gold.bytes.now p.gate.bytes.now p.gold.sided.valid.padded p.gate.sided.valid.padded
    ∙ begin-accepted _ _ _ _ (begin_fault _ _ _) (sym c.in-Ok.ensures)
