-- `begin_accepted` writes the initial rows, and answers. Assumes nothing.
use Rattle.stepping.specs.SteppingRight.{begun-right}
use Rattle.stepping.proofs.stepping.begin_accepted.Goals as goal

pub returns : goal.returns
returns c =
    let a = c.args in
    let gold = c.initial_row-gold_row in
    let gate = c.initial_row-gate_row in
    λ s t p q. begun-right s t a.gold.now a.gate.now gold.result gate.result a.bits.now _ p q (gold.ensures s) (gate.ensures t) c.store_rows.ensures
