-- `leave` writes the rows after the step, and answers. Assumes nothing.
use Rattle.stepping.specs.SteppingRight.{left-right}
use Rattle.stepping.proofs.stepping.leave.Goals as goal

pub returns : goal.returns
returns c =
    let a = c.args in
    left-right a.gold.now.register_count a.gate.now.register_count a.stepped a.bits.now _ c.store_rows.ensures
