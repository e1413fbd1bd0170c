-- `build` meets its contract. The invariant: the graph is built, and the next can be built after it. Assumes nothing.
use Rattle.std.proofs.Common.{rules}
use Rattle.solver.specs.Built.{built}
use Rattle.solver.proofs.build.build.Goals as goal

pub loop-init : goal.loop-init
loop-init c = (search rules, built _ _ _ _ _ _ c.from_netlist-first.ensures)

pub loop-preserved : goal.loop-preserved
loop-preserved c = (search rules, built _ _ _ _ _ _ c.from_netlist-next.ensures)

pub returns : goal.returns
returns c = c.loop.invariant.1
