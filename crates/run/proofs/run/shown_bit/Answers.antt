-- `shown_bit` goes by the reset's code, its kind and its signal. Assumes nothing.
use Rattle.std.proofs.Common.{sym, ◌∙◌}
use Rattle.run.specs.RowLaws.{signal-asserted}
use Rattle.run.specs.RunLaws.{shown-none, shown_synchronous, shown-asynchronous}
use Rattle.run.proofs.run.shown_bit.Goals as goal
use Rattle.run.proofs.run.shown_bit.Goals.{else-cell-ne0-via-then-cell-ne0+then-cell-eq1+else-asserted, else-cell-ne0-via-then-cell-ne0+else-cell-eq1, else-cell-ne0-via-else-cell-ne0}

pub returns-then-asserted : goal.returns-then-asserted
returns-then-asserted c =
    let a = c.args in
    let e = signal-asserted a.values.now a.cell.reset a.cell.reset_signal c.from.ensures c.bit_at.ensures c.asserted.ensures in
    sym (shown-asynchronous a.values.now a.stored a.cell c.if-cell-ne0.true c.if-cell-eq1.true ∙ rw (← e, c.if-asserted.true))

pub returns-else-cell-ne0 : goal.returns-else-cell-ne0
returns-else-cell-ne0 c =
    let a = c.args in
    elim c.else-cell-ne0.branch [
      | else-cell-ne0-via-then-cell-ne0+then-cell-eq1+else-asserted w ↦
          let e = signal-asserted a.values.now a.cell.reset a.cell.reset_signal w.from.ensures w.bit_at.ensures w.asserted.ensures in
          sym (shown-asynchronous a.values.now a.stored a.cell w.if-cell-ne0.true w.if-cell-eq1.true ∙ rw (← e, w.if-asserted.false))
      | else-cell-ne0-via-then-cell-ne0+else-cell-eq1 w ↦ sym (shown_synchronous _ _ a.cell w.if-cell-ne0.true w.if-cell-eq1.false)
      | else-cell-ne0-via-else-cell-ne0 w ↦ sym (shown-none _ _ a.cell w.if-cell-ne0.false)
    ]
