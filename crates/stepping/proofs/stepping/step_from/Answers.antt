-- `step_from` makes both sides ready and goes one step. Assumes nothing.
use Rattle.replay.specs.ReplayRight.{sized_of}
use Rattle.stepping.specs.SteppingRight.{step_right}
use Rattle.stepping.proofs.stepping.step_from.Goals as goal

pub side_of-gold_side-requires : goal.side_of-gold_side-requires
side_of-gold_side-requires c =
    let p = c.args.pair.now in
    (p.gold.sided.valid.within.sized, p.gold.sided.ordered.formed_outputs, p.gold.sided.ordered.formed_inputs)

pub side_of-gate_side-requires : goal.side_of-gate_side-requires
side_of-gate_side-requires c =
    let p = c.args.pair.now in
    (p.gate.sided.valid.within.sized, p.gate.sided.ordered.formed_outputs, p.gold.sided.ordered.formed_inputs)

pub step-requires : goal.step-requires
step-requires c =
    let a = c.args in
    let p = c.args.pair.now in
    let l = c.side_of-gold_side in
    let r = c.side_of-gate_side in (
      sized_of l.result a.pair.now.gold.design.netlist a.pair.now.gold.design.outputs l.ensures.0 l.ensures.1 p.gold.sided.valid.within.sized p.gold.sided.ordered.formed_outputs,
      sized_of r.result a.pair.now.gate.design.netlist a.pair.now.gate.design.outputs r.ensures.0 r.ensures.1 p.gate.sided.valid.within.sized p.gate.sided.ordered.formed_outputs,
      p.gold.sided.ordered.formed_inputs.fits,
      c.requires,
    )

pub returns : goal.returns
returns c =
    let a = c.args in
    let x = a.pair.now.gold in
    let y = a.pair.now.gate in
    let p = c.args.pair.now in
    let l = c.side_of-gold_side in
    let r = c.side_of-gate_side in
    step_right x.bytes.now y.bytes.now x.design y.design l.result r.result p.gold.sided.ordered p.gate.sided.ordered l.ensures r.ensures
    a.cycle a.claim.now a.p c.step.result (c.step.ensures x.bytes.now y.bytes.now)
