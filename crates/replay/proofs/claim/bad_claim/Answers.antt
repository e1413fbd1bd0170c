-- `bad_claim` tests the cycle, then the length, then the bytes. Assumes nothing.
use Rattle.std.proofs.Common.{sym, ◌∙◌, ◌+◌, ◌*◌, arith, lt-ltb, eq-eqb, ne_eqb, length}
use Rattle.steps.specs.StepLaws.{rows-small}
use Rattle.replay.specs.ClaimChecks.{claim_bad}
use Rattle.replay.specs.ClaimLaws.{claim-within}
use Rattle.replay.proofs.claim.bad_claim.Goals as goal

pub returns-then-cycle-gt64 : goal.returns-then-cycle-gt64
unfolding claim_bad
returns-then-cycle-gt64 c = let a = c.args in rw (lt-ltb 64 a.cycle c.if-cycle-gt64.true)

pub overflow_mul-rows : goal.overflow_mul-rows
overflow_mul-rows c = let a = c.args in omega (arith, rows-small (a.cycle + 1) a.inputs (omega arith) c.requires.0)

pub overflow_add-rows-2 : goal.overflow_add-rows-2
overflow_add-rows-2 c = let a = c.args in omega (arith, rows-small (a.cycle + 1) a.inputs (omega arith) c.requires.0, c.requires.1)

pub returns-then-claim-rows : goal.returns-then-claim-rows
returns-then-claim-rows c = let a = c.args in sym (claim-within a.inputs a.outputs a.cycle a.claim.now (omega arith) ∙ rw (ne_eqb (length a.claim.now) ((a.cycle + 1) * a.inputs + a.outputs) c.if-claim-rows.true))

pub returns : goal.returns
returns c = let a = c.args in sym (claim-within a.inputs a.outputs a.cycle a.claim.now (omega arith) ∙ rw (eq-eqb (length a.claim.now) ((a.cycle + 1) * a.inputs + a.outputs) c.if-claim-rows.false, ← c.all_bits.ensures))
