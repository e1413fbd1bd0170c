-- `store_rows` writes gold's row, then gate's. Assumes nothing.
use Rattle.std.proofs.Common.{ap, ◌∙◌, take}
use Rattle.model.specs.Stepping.{gate_bits, with_stored}
use Rattle.stepping.proofs.stepping.store_rows.Goals as goal

pub returns : goal.returns
returns c =
    let a = c.args in
    c.store_row-2.ensures ∙ ap (with_stored gate_bits (take a.gate.now.register_count a.gate_row)) c.store_row.ensures
