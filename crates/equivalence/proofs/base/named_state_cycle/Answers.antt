-- `equivalence::base::named_state_cycle` meets its contract. Assumes nothing.
use Rattle.std.proofs.Common.{arith}
use Rattle.unrolling.specs.Naming.{matches-below}
use Rattle.equivalence.specs.NamedState.{startable-named, named_cycled}
use Rattle.equivalence.proofs.base.named_state_cycle.Goals as goal

pub join_named-made-requires : goal.join_named-made-requires
join_named-made-requires c =
    let s = c.requires.0 in (
      s.ready,
      s.paired.gold.state_count,
      omega (arith, s.room),
      c.requires.2,
      s.gold_state_lem,
      matches-below _ _ c.args.gate.now.state_count _ _ s.paired.gate.state_count c.requires.1 s.gate_state_lem,
    )

pub import_frames-frames-requires : goal.import_frames-frames-requires
import_frames-frames-requires c =
    startable-named c.args.gold.now c.args.gate.now c.args.matches.now _ _ _ _ _ c.requires.0 c.requires.1 _ _ _ c.join_named-made.ensures

pub returns : goal.returns
returns c =
    named_cycled c.args.gold.now c.args.gate.now c.args.matches.now _ _ _ _ _ c.requires.0 c.requires.1 _ _ _ c.join_named-made.ensures _ _ _ _ _ _ _ c.import_frames-frames.ensures
