-- `lower_register_output` meets its contract. Assumes nothing.
use Rattle.std.proofs.Common.{arith}
use Rattle.lowering.specs.Step.{netted-made, netted-state, entered_register}
use Rattle.lowering.proofs.walk.lower_register_output.Goals as goal

pub shown-seen-requires : goal.shown-seen-requires
shown-seen-requires c = (
  rw c.stash.ensures.0 (netted-state _ _ _ _ (netted-made 1 _ _ _ _ _ _ c.requires.0 c.variable-made.ensures) c.variable-made.ensures.below),
  omega (arith, c.variable-made.ensures.within),
  c.variable-made.ensures.below,
)

pub returns : goal.returns
returns c =
    rw c.stash-2.ensures.0 (entered_register _ _ _ _ _ _ _ _ _ _ _ c.requires.0 c.variable-made.ensures (rw c.stash.ensures.0 at c.shown-seen.ensures))
