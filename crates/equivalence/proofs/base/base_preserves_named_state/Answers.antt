-- `equivalence::base::base_preserves_named_state` meets its contract. Assumes nothing.
use Rattle.std.proofs.Common.{arith}
use Rattle.equivalence.specs.NamedState.{startable-base, preserves}
use Rattle.equivalence.proofs.base.base_preserves_named_state.Goals as goal

pub named_state_cycles-requires : goal.named_state_cycles-requires
named_state_cycles-requires c =
    let s = c.start-start.ensures in
    (rw (s.0, s.4, s.5) (startable-base c.args.gold.now c.args.gate.now _ _ _ c.args.depth _ _ c.requires s.3 s.2), c.requires.matches, omega (arith, s.0, s.6))

pub returns : goal.returns
returns c =
    let s = c.start-start.ensures in
    let left = rw (s.0, s.4, s.5, s.6) at c.named_state_cycles.ensures in
    preserves c.args.gold.now c.args.gate.now _ _ _ c.args.depth _ _ c.requires s.3 s.2 _ _ _ _ _ s.1 left
