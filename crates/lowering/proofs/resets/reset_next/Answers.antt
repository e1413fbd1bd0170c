-- `reset_next` meets its contract. Assumes nothing.
use Rattle.std.proofs.Common.{arith}
use Rattle.lowering.specs.Gate.{made_as, made-literal}
use Rattle.lowering.specs.Registers.{reset-never, reset_when}
use Rattle.lowering.proofs.resets.reset_next.Goals as goal

pub returns-then-reset-eq0 : goal.returns-then-reset-eq0
returns-then-reset-eq0 c =
    made-literal _ _ _ _ c.requires.0 c.requires.2 (reset-never _ _ _ _ c.if-reset-eq0.true)

pub returns : goal.returns
returns c =
    made_as (reset_when _ _ _ _ (omega arith)) c.reset_mux.ensures
