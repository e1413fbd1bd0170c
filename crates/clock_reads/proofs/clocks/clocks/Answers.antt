-- `clocks` marks the clock of each register: a number that clocks one is marked already, or clocks one of those left. Assumes nothing.
use Rattle.std.proofs.Common.{◌+◌, [], ◌∷◌, arith, ◌<◌, length-take, get_or-take, drop, get_or}
use Rattle.model.specs.Validate.{clocks}
use Rattle.struo_ir.specs.Decoded.{decoded}
use Rattle.struo_ir.specs.Registers.{no_register}
use Rattle.clock_reads.specs.MarkLaws.{no-marks, more-marks, all-marks}
use Rattle.clock_reads.specs.Marks.{with_marks}
use Rattle.clock_reads.specs.ReadLaws.{clocks-here, clocks-done}
use Rattle.clock_reads.proofs.clocks.clocks.Goals as goal

pub loop-cell-init : goal.loop-cell-init
loop-cell-init c = no-marks _

pub loop-cell-preserved : goal.loop-cell-preserved
unfolding with_marks
loop-cell-preserved c =
    let n = c.args.netlist in
    let i = c.loop-cell.cell-index in
    let h : i < n.register_count = omega (arith, length-take n.register_count n.registers) in
    let m = more-marks _ _ _ c.loop-cell.invariant (λ s k. clocks k (drop (i + 1) (decoded s n).registers)) ((get_or n.registers i no_register).clock ∷ []) (clocks-here n c.requires i h) in
    rw (rw (get_or-take n.register_count n.registers i _ h) at c.mark.ensures) m

pub returns : goal.returns
returns c = all-marks _ _ _ c.loop-cell.invariant (clocks-done _ _ (omega (arith, length-take c.args.netlist.register_count c.args.netlist.registers, c.requires.registers_padded.fits)))
