-- `enabled` meets its contract. Assumes nothing.
use Rattle.std.proofs.Common.{arith}
use Rattle.lowering.specs.Gate.{made_as, made-literal}
use Rattle.lowering.specs.Registers.{enabled_always, enabled_when}
use Rattle.lowering.specs.Step.{asserted-below}
use Rattle.lowering.proofs.registers.enabled.Goals as goal

pub returns-then-register-eq0 : goal.returns-then-register-eq0
returns-then-register-eq0 c =
    rw c.net_literal-data.ensures (made-literal _ _ _ _ c.requires.0 (c.requires.0.nets _) (enabled_always _ _ c.args.register _ _ c.if-register-eq0.true))

pub mux-requires : goal.mux-requires
mux-requires c = (
  c.requires.0.ready,
  c.requires.1,
  rw (c.asserted_literal-asserted.ensures, c.net_literal-signal.ensures) (asserted-below _ _ _ (c.requires.0.nets c.args.register.enable_signal)),
  rw c.net_literal-data.ensures (c.requires.0.nets c.args.register.«data»),
  c.requires.2,
)

pub returns : goal.returns
returns c =
    made_as (enabled_when _ _ c.args.register _ _ (omega arith)) (rw (c.asserted_literal-asserted.ensures, c.net_literal-signal.ensures, c.net_literal-data.ensures) at c.mux.ensures)
