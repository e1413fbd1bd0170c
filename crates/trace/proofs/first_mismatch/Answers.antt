-- `trace::first_mismatch` meets its contract. Assumes nothing.
use Rattle.std.proofs.Common.{◌≡◌, sym, ◌∙◌, arith}
use Rattle.trace.specs.Cycles.{equal-none, equal-more, no-mismatch, first-mismatch}
use Rattle.trace.proofs.first_mismatch.Goals as goal

pub loop-cycle-init : goal.loop-cycle-init
loop-cycle-init c = equal-none _ _

pub returns-then-value_at : goal.returns-then-value_at
returns-then-value_at c =
    let l = c.loop-cycle in
    record {
      is = λ I O. first-mismatch _ I O _ _ _ c.loop-cycle-test.true l.invariant (sym c.value_at.ensures ∙ c.if-value_at.true);
      below = λ h. c.loop-cycle-test.true;
    }

pub loop-cycle-preserved : goal.loop-cycle-preserved
loop-cycle-preserved c = equal-more _ _ _ (sym c.value_at.ensures ∙ c.if-value_at.false) c.loop-cycle.invariant

pub returns : goal.returns
returns c =
    let l = c.loop-cycle in
    let e : l.cycle ≡ c.args.cycles = omega (arith, l.auto.cycle-end, c.loop-cycle-test.false) in
    record { is = λ I O. no-mismatch _ I O _ _ (rw e at l.invariant); below = λ h. h }
