-- `reads` marks the data, enable and reset of each register after what the nodes read: a number that is read is marked already, or read by one of the registers left. Assumes nothing.
use Rattle.std.proofs.Common.{◌+◌, arith, ◌<◌, length-take, get_or-take, drop}
use Rattle.model.specs.Validate.{registers_read}
use Rattle.struo_ir.specs.Decoded.{decoded}
use Rattle.clock_reads.specs.MarkLaws.{marks-kept, more-marks, all-marks}
use Rattle.clock_reads.specs.ReadLaws.{data_here, data_done}
use Rattle.clock_reads.proofs.reads.reads.Goals as goal

pub loop-cell-init : goal.loop-cell-init
loop-cell-init c = marks-kept _ _ _ c.node_reads-table.ensures

pub loop-cell-preserved : goal.loop-cell-preserved
loop-cell-preserved c =
    let n = c.args.netlist in
    let i = c.loop-cell.cell-index in
    let h : i < n.register_count = omega (arith, length-take n.register_count n.registers) in
    let m = more-marks _ _ _ c.loop-cell.invariant (λ s k. registers_read k (drop (i + 1) (decoded s n).registers)) _ (data_here n c.requires i h) in
    rw (rw (get_or-take n.register_count n.registers i _ h) at c.mark_data.ensures) m

pub returns : goal.returns
returns c = all-marks _ _ _ c.loop-cell.invariant (data_done _ _ (omega (arith, length-take c.args.netlist.register_count c.args.netlist.registers, c.requires.registers_padded.fits)))
