-- `struo_ir::nodes::counted` meets its contract. Assumes nothing.
use Rattle.std.proofs.Common.{arith, eq-eqb, ne_eqb}
use Rattle.struo_ir.proofs.nodes.counted.Goals as goal

pub returns-then-kind-port : goal.returns-then-kind-port
returns-then-kind-port c = rw (eq-eqb _ _ c.if-kind-port.true)

pub returns-else-kind-port : goal.returns-else-kind-port
returns-else-kind-port c = rw (ne_eqb _ _ c.if-kind-port.false) (omega arith)
