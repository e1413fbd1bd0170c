-- `from_netlist` meets its contract. Assumes nothing.
use Rattle.lowering.proofs.SystemLaws.{lowered}
use Rattle.lowering.proofs.lowering.from_netlist.Goals as goal

pub returns : goal.returns
returns c =
    lowered c.args.netlist c.args.base c.requires.1 c.requires.2 _ _ _ _ _ _ _ _ _ c.requires.3 c.start_walk-start.ensures.1
    (rw c.start_walk-start.ensures.0 at c.lower_nodes-walked.ensures) c.lower_registers.ensures (c.copy_graph.ensures.0) c.copy_graph.ensures.1
