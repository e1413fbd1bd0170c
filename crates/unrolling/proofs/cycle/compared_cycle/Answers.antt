-- `unrolling::cycle::compared_cycle` meets its contract. Assumes nothing.
use Rattle.std.proofs.Common.{arith}
use Rattle.unrolling.specs.Cycling.{compared}
use Rattle.unrolling.proofs.cycle.compared_cycle.Goals as goal

pub compare_outputs-made-requires : goal.compare_outputs-made-requires
compare_outputs-made-requires c =
    let m = c.import_frames-frames.ensures in
    (m.ready, c.requires.paired.gold.output_count_lem, omega (arith, m.within, c.requires.room), m.gold_outputs, rw c.requires.paired.outputs at m.gate_outputs)

pub returns : goal.returns
returns c =
    compared _ _ _ _ _ _ _ _ _ _ _ _ _ _ _ _ c.requires.paired c.import_frames-frames.ensures c.compare_outputs-made.ensures
