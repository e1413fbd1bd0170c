-- `unrolling::frame::import_frame` meets its contract. Assumes nothing.
use Rattle.unrolling.specs.Framing.{sourced_after, framed_after}
use Rattle.unrolling.proofs.frame.import_frame.Goals as goal

pub import_aig-aig-requires : goal.import_aig-aig-requires
import_aig-aig-requires c =
    sourced_after c.args.system.now c.args.proof.count _ c.args.inputs.now c.args.states.now _ _ c.requires c.give.ensures.0 c.give-2.ensures.0

pub returns : goal.returns
returns c =
    framed_after c.args.system.now c.args.proof.count _ c.args.inputs.now c.args.states.now _ _ c.requires c.give.ensures.0 c.give-2.ensures.0
    _ _ _ _ c.import_aig-aig.ensures c.remap_literals-outputs.ensures c.remap_literals-next.ensures
