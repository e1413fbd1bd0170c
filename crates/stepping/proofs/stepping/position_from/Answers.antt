-- `position_from` reads gold's row, then gate's. Assumes nothing.
use Rattle.stepping.specs.SteppingRight.{position-right}
use Rattle.stepping.proofs.stepping.position_from.Goals as goal

pub returns : goal.returns
returns c =
    let a = c.args in
    λ s t p q. position-right s t a.gold.now a.gate.now c.stored_row-gold_row.result c.stored_row-gate_row.result a.position a.bits.now p q c.stored_row-gold_row.ensures c.stored_row-gate_row.ensures
