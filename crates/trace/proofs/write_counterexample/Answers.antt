-- `trace::write_counterexample` meets its contract. Assumes nothing.
use Rattle.std.proofs.Common.{arith}
use Rattle.trace.specs.Cycles.{rows-room, traced}
use Rattle.trace.proofs.write_counterexample.Goals as goal

pub write_trace-requires : goal.write_trace-requires
write_trace-requires c =
    let first = rw (← c.unwrap_or-mismatch.ensures) at c.first_mismatch.ensures in
    let h = first.below c.requires.some in (
      c.requires.long,
      c.requires.inputs,
      c.requires.outputs,
      omega (arith, c.requires.cycles_small, h),
      omega (arith, rows-room c.unwrap_or-mismatch.result c.args.cycles c.args.input_count h, c.requires.room),
    )

pub overflow_cast-result : goal.overflow_cast-result
overflow_cast-result c =
    let first = rw (← c.unwrap_or-mismatch.ensures) at c.first_mismatch.ensures in
    omega (arith, c.requires.cycles_small, first.below c.requires.some)

pub returns : goal.returns
returns c =
    let first = rw (← c.unwrap_or-mismatch.ensures) at c.first_mismatch.ensures in
    traced _ _ _ _ _ _ _ _ c.requires.some first c.write_trace.ensures
