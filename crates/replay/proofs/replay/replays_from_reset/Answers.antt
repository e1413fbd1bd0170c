-- `replays_from_reset` is `replays_from` at the rows of initial bits. Assumes nothing.
use Rattle.std.proofs.Common.{◌∙◌}
use Rattle.replay.specs.ReplayRight.{from-reset}
use Rattle.replay.proofs.replay.replays_from_reset.Goals as goal

pub initial_row-gold_row-requires : goal.initial_row-gold_row-requires
initial_row-gold_row-requires c = c.args.pair.now.gold.sided.valid.within.sized

pub initial_row-gate_row-requires : goal.initial_row-gate_row-requires
initial_row-gate_row-requires c = c.args.pair.now.gate.sided.valid.within.sized

pub replays_from-requires : goal.replays_from-requires
replays_from-requires c = c.requires

pub returns : goal.returns
returns c =
    let gold = c.initial_row-gold_row in
    let gate = c.initial_row-gate_row in
    let a = c.args in
    let x = a.pair.now.gold in
    let y = a.pair.now.gate in
    c.replays_from.ensures
    ∙ from-reset x.bytes.now y.bytes.now x.design.netlist y.design.netlist gold.result gate.result a.cycle a.claim.now
    x.sided.valid.padded y.sided.valid.padded (gold.ensures x.bytes.now) (gate.ensures y.bytes.now)
