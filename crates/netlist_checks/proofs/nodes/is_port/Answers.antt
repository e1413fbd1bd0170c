-- `netlist_checks::nodes::is_port` meets its contract. Assumes nothing.
use Rattle.std.proofs.Common.{◌∙◌, eq-eqb}
use Rattle.struo_ir.specs.KindLaws.{port_input, port_output}
use Rattle.netlist_checks.proofs.nodes.is_port.Goals as goal

pub returns-then-kind-eq-INPUT : goal.returns-then-kind-eq-INPUT
returns-then-kind-eq-INPUT c = eq-eqb _ _ c.if-kind-eq-INPUT.true ∙ port_input _ c.if-kind-eq-INPUT.true

pub returns-else-kind-eq-INPUT : goal.returns-else-kind-eq-INPUT
returns-else-kind-eq-INPUT c = port_output c.args.kind c.if-kind-eq-INPUT.false
