-- `node_reads` marks the inputs of each node: a number that one reads is marked already, or read by one of those left. Assumes nothing.
use Rattle.std.proofs.Common.{◌+◌, arith, ◌<◌, length-take, get_or-take, drop}
use Rattle.model.specs.Validate.{nodes_read}
use Rattle.struo_ir.specs.Decoded.{decoded}
use Rattle.clock_reads.specs.MarkLaws.{no-marks, more-marks, all-marks}
use Rattle.clock_reads.specs.ReadLaws.{inputs-here, inputs-done}
use Rattle.clock_reads.proofs.reads.node_reads.Goals as goal

pub loop-node-init : goal.loop-node-init
loop-node-init c = no-marks _

pub loop-node-preserved : goal.loop-node-preserved
loop-node-preserved c =
    let n = c.args.netlist in
    let i = c.loop-node.node-index in
    let h : i < n.node_count = omega (arith, length-take n.node_count n.nodes) in
    let m = more-marks _ _ _ c.loop-node.invariant (λ s k. nodes_read k (drop (i + 1) (decoded s n).nodes)) _ (inputs-here n c.requires i h) in
    rw (rw (get_or-take n.node_count n.nodes i _ h) at c.mark_inputs.ensures) m

pub returns : goal.returns
returns c = all-marks _ _ _ c.loop-node.invariant (inputs-done _ _ (omega (arith, length-take c.args.netlist.node_count c.args.netlist.nodes, c.requires.nodes_padded.fits)))
