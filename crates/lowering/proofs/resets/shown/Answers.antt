-- `shown` is the stored bit, or a choice of the reset value where the reset is asynchronous. Assumes nothing.
use Rattle.std.proofs.Common.{⊎_elim, arith}
use Rattle.lowering.specs.Gate.{made_as, made-literal}
use Rattle.lowering.specs.Step.{shown_plain, shown_synchronous, shown-asynchronous}
use Rattle.lowering.proofs.resets.shown.Goals as goal

pub returns-then-reset-eq0 : goal.returns-then-reset-eq0
returns-then-reset-eq0 c =
    made-literal _ _ _ _ c.requires.0 c.requires.2
    (⊎_elim (λ k. shown_plain _ _ _ _ k) (λ k. shown_synchronous _ _ _ _ (omega (arith, k.0)) k.1) c.then-reset-eq0.either)

pub returns : goal.returns
returns c =
    made_as (shown-asynchronous _ _ _ _ (omega arith) c.if-reset-ne1.false) c.reset_mux.ensures
