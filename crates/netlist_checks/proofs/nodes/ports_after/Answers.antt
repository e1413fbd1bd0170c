-- `netlist_checks::nodes::ports_after` meets its contract. Assumes nothing.
use Rattle.std.proofs.Common.{sym, ◌∙◌, arith}
use Rattle.netlist_checks.proofs.nodes.ports_after.Goals as goal

pub returns-then-is_port : goal.returns-then-is_port
returns-then-is_port c = rw (sym c.is_port.ensures ∙ c.if-is_port.true)

pub returns-else-is_port : goal.returns-else-is_port
returns-else-is_port c = rw (sym c.is_port.ensures ∙ c.if-is_port.false) (omega arith)
