-- `enabled_bit` goes by the enable's code and its signal. Assumes nothing.
use Rattle.std.proofs.Common.{sym, ◌∙◌, true≢false, eq-eqb}
use Rattle.run.specs.RowLaws.{enabled-none, enabled-some, signal-asserted}
use Rattle.run.proofs.run.enabled_bit.Goals as goal
use Rattle.run.proofs.run.enabled_bit.Goals.{then-cell-eq0, else-cell-eq0}

pub returns-then-asserted : goal.returns-then-asserted
returns-then-asserted c =
    let a = c.args in
    elim c.if-cell-eq0.branch [
      | then-cell-eq0 w ↦ sym (enabled-none a.values.now a.stored a.next a.cell w.if-cell-eq0.true)
      | else-cell-eq0 w ↦
          let e = signal-asserted a.values.now a.cell.enable a.cell.enable_signal w.from.ensures w.bit_at.ensures w.asserted.ensures in
          sym (enabled-some a.values.now a.stored a.next a.cell w.if-cell-eq0.false ∙ rw (← e, ← w.value-is, c.if-asserted.true))
    ]

pub returns-else-asserted : goal.returns-else-asserted
returns-else-asserted c =
    let a = c.args in
    elim c.if-cell-eq0.branch [
      | then-cell-eq0 w ↦ absurd (true≢false (sym (eq-eqb a.cell.enable 0 w.if-cell-eq0.true) ∙ sym w.value-is ∙ c.if-asserted.false))
      | else-cell-eq0 w ↦
          let e = signal-asserted a.values.now a.cell.enable a.cell.enable_signal w.from.ensures w.bit_at.ensures w.asserted.ensures in
          sym (enabled-some a.values.now a.stored a.next a.cell w.if-cell-eq0.false ∙ rw (← e, ← w.value-is, c.if-asserted.false))
    ]
