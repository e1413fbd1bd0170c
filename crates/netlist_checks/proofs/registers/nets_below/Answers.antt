-- `netlist_checks::registers::nets_below` meets its contract. Assumes nothing.
use Rattle.std.proofs.Common.{sym, ◌∙◌}
use Rattle.netlist_checks.specs.RegisterCheckLaws.{data_not-below, clock-not-below, enable-not-below, signals_below}
use Rattle.netlist_checks.proofs.registers.nets_below.Goals as goal

pub returns-then-count-cell : goal.returns-then-count-cell
returns-then-count-cell c = λ s. let a = c.args in data_not-below s a.cell a.count c.if-count-cell.true

pub returns-then-count-cell-2 : goal.returns-then-count-cell-2
returns-then-count-cell-2 c = λ s. let a = c.args in clock-not-below s a.cell a.count c.if-count-cell.false c.if-count-cell-2.true

pub returns-then-signal_below : goal.returns-then-signal_below
returns-then-signal_below c = λ s. let a = c.args in signals_below s a.cell a.count c.if-count-cell.false c.if-count-cell-2.false (sym c.signal_below.ensures ∙ c.if-signal_below.true) _ c.signal_below-then-signal_below.ensures

pub returns : goal.returns
returns c = λ s. let a = c.args in enable-not-below s a.cell a.count c.if-count-cell.false c.if-count-cell-2.false (sym c.signal_below.ensures ∙ c.if-signal_below.false)
