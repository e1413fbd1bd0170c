-- `reset_bit` goes by the reset's code and its signal. Assumes nothing.
use Rattle.std.proofs.Common.{sym, ◌∙◌, false}
use Rattle.run.specs.RowLaws.{reset-none, reset-some, signal-asserted}
use Rattle.run.proofs.run.reset_bit.Goals as goal
use Rattle.run.proofs.run.reset_bit.Goals.{else-cell-ne0-via-then-cell-ne0+else-asserted, else-cell-ne0-via-else-cell-ne0}

pub returns-then-asserted : goal.returns-then-asserted
returns-then-asserted c =
    let a = c.args in
    let e = signal-asserted a.values.now a.cell.reset a.cell.reset_signal c.from.ensures c.bit_at.ensures c.asserted.ensures in
    sym (reset-some a.values.now a.bit false a.cell c.if-cell-ne0.true ∙ rw (← e, c.if-asserted.true))

pub returns-else-cell-ne0 : goal.returns-else-cell-ne0
returns-else-cell-ne0 c =
    let a = c.args in
    elim c.else-cell-ne0.branch [
      | else-cell-ne0-via-then-cell-ne0+else-asserted w ↦
          let e = signal-asserted a.values.now a.cell.reset a.cell.reset_signal w.from.ensures w.bit_at.ensures w.asserted.ensures in
          sym (reset-some a.values.now a.bit false a.cell w.if-cell-ne0.true ∙ rw (← e, w.if-asserted.false))
      | else-cell-ne0-via-else-cell-ne0 w ↦ sym (reset-none a.values.now a.bit false a.cell w.if-cell-ne0.false)
    ]
