-- `step_accepted` reads the lent position, goes one step and leaves what it gives. Assumes nothing.
use Rattle.std.proofs.Common.{ap, ◌∙◌}
use Rattle.model.specs.Replay.{Stepped}
use Rattle.model.specs.Stepping.{stepped_to}
use Rattle.model.specs.Replay as Model
use Rattle.stepping.proofs.stepping.step_accepted.Goals as goal

pub position_from-p-requires : goal.position_from-p-requires
position_from-p-requires c = let p = c.args.pair.now in (p.gold.sided.valid.within.sized, p.gate.sided.valid.within.sized, c.requires.1)

pub step_from-stepped-requires : goal.step_from-stepped-requires
step_from-stepped-requires c = c.requires.0

pub leave-requires : goal.leave-requires
leave-requires c = let p = c.args.pair.now in (p.gold.sided.valid.within.sized, p.gate.sided.valid.within.sized, c.requires.1)

pub returns : goal.returns
returns c =
    let a = c.args in
    let x = a.pair.now in
    let from = c.position_from-p in
    c.leave.ensures
    ∙ ap (λ (x : Stepped). stepped_to x a.bits.now)
    (c.step_from-stepped.ensures ∙ ap (Model.step _ _ a.cycle a.claim.now) (from.ensures x.gold.bytes.now x.gate.bytes.now x.gold.sided.valid.padded x.gate.sided.valid.padded))
