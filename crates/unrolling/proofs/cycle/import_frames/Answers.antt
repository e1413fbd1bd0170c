-- `unrolling::cycle::import_frames` meets its contract. Assumes nothing.
use Rattle.std.proofs.Common.{refl, arith}
use Rattle.unrolling.specs.Cycling.{framable_gold, framable_gate, frames_made}
use Rattle.unrolling.proofs.cycle.import_frames.Goals as goal

pub import_frame-left-requires : goal.import_frame-left-requires
import_frame-left-requires c =
    framable_gold _ c.args.gold.now c.args.gate.now _ _ _ c.args.gate_state.now c.requires (omega arith) _ _ _ _ c.new_variables-made.ensures

pub import_frame-right-requires : goal.import_frame-right-requires
import_frame-right-requires c =
    framable_gate _ c.args.gold.now c.args.gate.now _ _ _ _ c.requires (omega arith) _ _ _ _ c.new_variables-made.ensures _ _ _ _ c.import_frame-left.ensures

pub returns : goal.returns
returns c =
    frames_made _ c.args.gold.now c.args.gate.now _ _ _ _ c.requires (omega arith) _ _ _ _ c.new_variables-made.ensures _ _ _ _ c.import_frame-left.ensures _ _ _ _ c.import_frame-right.ensures refl
