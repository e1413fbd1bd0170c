-- `clock_read_fault` meets its contract: the numbers that are left to check give the whole outcome. Assumes nothing.
use Rattle.std.proofs.Common.{◌≡◌, ◌+◌, drop, ◌<◌, ◌∙◌, arith}
use Rattle.calls.specs.Faults.{refusal}
use Rattle.calls.specs.Causes.{fault_of}
use Rattle.clock_reads.specs.ClockReadLaws.{clock-is-read, no-clock, unread, none_read}
use Rattle.model.specs.Validate.{clock_read_fault}
use Rattle.struo_ir.specs.Decoded.{decoded}
use Rattle.clock_reads.proofs.clock_read_fault.Goals as goal
use Rattle.clock_reads.proofs.clock_read_fault.Goals.{In-loop-i, else-clocking-i-via-then-clocking-i+else-read-i, else-clocking-i-via-else-clocking-i}

-- the number is below 1,024
small : (c : In-loop-i) → c.loop-i.i < 1024
small c = omega (arith, c.requires.nodes_padded.fits)

pub returns-then-read-i : goal.returns-then-read-i
unfolding fault_of refusal
returns-then-read-i c = λ s. rw c.at.ensures (clock-is-read s _ c.requires _ _ c.clocks-clocking.ensures c.reads-read.ensures _ (omega arith) c.if-clocking-i.true c.if-read-i.true ∙ c.loop-i.invariant s)

pub loop-i-preserved : goal.loop-i-preserved
loop-i-preserved c =
    λ s. elim c.else-clocking-i.branch as (λ _. clock_read_fault (decoded s c.args.netlist) (c.loop-i.i + 1) (drop (c.loop-i.i + 1) (decoded s c.args.netlist).nodes) ≡ clock_read_fault (decoded s c.args.netlist) c.loop-i.i (drop c.loop-i.i (decoded s c.args.netlist).nodes)) [
      | else-clocking-i-via-then-clocking-i+else-read-i w ↦ unread s _ c.requires _ _ c.clocks-clocking.ensures c.reads-read.ensures _ (omega arith) w.if-clocking-i.true w.if-read-i.false
      | else-clocking-i-via-else-clocking-i w ↦ no-clock s _ c.requires _ _ c.clocks-clocking.ensures c.reads-read.ensures _ (omega arith) w.if-clocking-i.false
    ]
    ∙ c.loop-i.invariant s

pub returns : goal.returns
unfolding fault_of refusal
returns c = λ s. none_read s _ _ (omega arith) ∙ c.loop-i.invariant s
