-- `step_pair` answers the first refusal, or goes one step. Assumes nothing.
use Rattle.std.proofs.Common.{sym, ◌∙◌}
use Rattle.calls.specs.Causes.{fault_of}
use Rattle.model.specs.Stepping.{step_fault}
use Rattle.replay.specs.ReplayRight.{accepted-cycle}
use Rattle.stepping.specs.LentBitsLaws.{step-long, step-claim}
use Rattle.stepping.specs.SteppingRight.{refused-left, step-refused, step-accepted}
use Rattle.stepping.proofs.stepping.step_pair.Goals as goal

pub step_accepted-requires : goal.step_accepted-requires
unfolding fault_of
step_accepted-requires c =
    let a = c.args in
    let e = sym c.in-Ok.ensures in
    (accepted-cycle _ _ a.cycle a.claim.now (step-claim _ _ a.cycle a.claim.now a.bits.now e), step-long _ _ a.cycle a.claim.now a.bits.now e)

pub returns-in-Err : goal.returns-in-Err
unfolding fault_of
returns-in-Err c =
    refused-left _ _ _ _ c.from-answer.ensures
    ∙ step-refused _ _ _ _ _ _ (step_fault _ _ _ _ _) _ (sym c.in-Err.ensures)

pub returns-in-Ok : goal.returns-in-Ok
unfolding fault_of
returns-in-Ok c =
    c.step_accepted.ensures
    ∙ step-accepted _ _ _ _ _ _ (step_fault _ _ _ _ _) (sym c.in-Ok.ensures)
