-- `netlist_checks::registers::signal_below` meets its contract. Assumes nothing.
use Rattle.netlist_checks.specs.RegisterCheckLaws.{signal-none, signal-some}
use Rattle.netlist_checks.proofs.registers.signal_below.Goals as goal

pub returns-then-code-eq0 : goal.returns-then-code-eq0
returns-then-code-eq0 c = signal-none _ _ _ c.if-code-eq0.true

pub returns : goal.returns
returns c = let a = c.args in signal-some a.code a.signal a.count c.if-code-eq0.false
