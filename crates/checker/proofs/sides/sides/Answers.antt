-- `sides` lowers gold's side, then gate's, and joins starts and matches to them. Assumes nothing.
use Rattle.std.proofs.Common.{arith}
use Rattle.checker.specs.SideLaws.{sides_made}
use Rattle.checker.proofs.sides.sides.Goals as goal

pub side-left-requires : goal.side-left-requires
side-left-requires c =
    let v = c.args.pair.now.gold.sided in
    (c.requires, omega arith, omega arith, v.valid.within.sized, v.ordered.formed_inputs, v.ordered.formed_outputs, v.ordered.formed_registers)

pub side-right-requires : goal.side-right-requires
side-right-requires c =
    let v = c.args.pair.now.gate.sided in
    (c.side-left.ensures.ready.long, omega arith, omega arith, v.valid.within.sized, v.ordered.formed_inputs, v.ordered.formed_outputs, v.ordered.formed_registers)

pub start_literals-gold_start-requires : goal.start_literals-gold_start-requires
start_literals-gold_start-requires c = c.args.pair.now.gold.sided.ordered.formed_registers

pub start_literals-gate_start-requires : goal.start_literals-gate_start-requires
start_literals-gate_start-requires c = c.args.pair.now.gate.sided.ordered.formed_registers

pub matches-gold_matches-requires : goal.matches-gold_matches-requires
matches-gold_matches-requires c = let p = c.args.pair.now in (p.gold.sided.ordered.formed_registers, p.gate.sided.ordered.formed_registers)

pub matches-gate_matches-requires : goal.matches-gate_matches-requires
matches-gate_matches-requires c = let p = c.args.pair.now in (p.gate.sided.ordered.formed_registers, p.gold.sided.ordered.formed_registers)

pub returns : goal.returns
returns c =
    let p = c.args.pair.now in
    sides_made _ _ _ _ _ _ _ _ _ _ _ _ _ _ _ p.gold.sided p.gate.sided c.side-left.ensures c.side-right.ensures c.start_literals-gold_start.ensures c.start_literals-gate_start.ensures c.matches-gold_matches.ensures c.matches-gate_matches.ensures
