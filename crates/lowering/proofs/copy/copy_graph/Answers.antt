-- `copy_graph` meets its contract. Assumes nothing.
use Rattle.std.proofs.Common.{arith}
use Rattle.lowering.specs.System.{copying_more}
use Rattle.lowering.proofs.copy.copy_graph.Goals as goal

pub loop-i-preserved : goal.loop-i-preserved
loop-i-preserved c =
    let l = c.loop-i in
    let p = c.requires in
    (c.copy_node.ensures.1, rw c.copy_node.ensures.0 (copying_more _ p.1 p.2 _ l.i _ (omega (arith, c.loop-i-test.true, p.3)) l.invariant.0 l.invariant.1))
