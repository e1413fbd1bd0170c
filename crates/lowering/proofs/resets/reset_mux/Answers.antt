-- `reset_mux` meets its contract. Assumes nothing.
use Rattle.lowering.specs.Gate.{constant-below}
use Rattle.lowering.specs.Step.{asserted-below}
use Rattle.lowering.proofs.resets.reset_mux.Goals as goal

pub mux-requires : goal.mux-requires
mux-requires c = (
  c.requires.0.ready,
  c.requires.1,
  rw (c.asserted_literal-asserted.ensures, c.net_literal-signal.ensures) (asserted-below _ _ _ (c.requires.0.nets c.args.reset.signal)),
  rw c.constant_literal-reset_value.ensures (constant-below _ _ c.requires.0.ready.positive),
  c.requires.2,
)
