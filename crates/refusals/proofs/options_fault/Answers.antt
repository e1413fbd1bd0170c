-- `options_fault` tests 16, then 17, then 36. Assumes nothing.
use Rattle.std.proofs.Common.{eq-eqb, ne_eqb, lt-ltb, le-ltb}
use Rattle.calls.specs.Faults.{refusal}
use Rattle.calls.specs.Causes.{fault_of}
use Rattle.calls.specs.Options.{options_of}
use Rattle.model.specs.Options.{learned_limit}
use Rattle.model.specs.Validate.{◌otherwise◌, refuse_if}
use Rattle.refusals.specs.Refusals.{options_fault}
use Rattle.refusals.proofs.options_fault.Goals as goal

pub returns-then-options-eq0 : goal.returns-then-options-eq0
unfolding fault_of refusal options_fault options_of refuse_if ◌otherwise◌
returns-then-options-eq0 c = rw (c.of_pair.ensures, eq-eqb c.args.options.depth 0 c.if-options-eq0.true)

pub returns-then-options-gt64 : goal.returns-then-options-gt64
unfolding fault_of refusal options_fault options_of refuse_if ◌otherwise◌
returns-then-options-gt64 c =
    let d = c.args.options.depth in
    rw (c.of_pair-then-options-gt64.ensures, ne_eqb d 0 c.if-options-eq0.false, lt-ltb 64 d c.if-options-gt64.true)

pub returns-then-options-gt-LIMIT : goal.returns-then-options-gt-LIMIT
unfolding fault_of refusal options_fault options_of learned_limit refuse_if ◌otherwise◌
returns-then-options-gt-LIMIT c =
    let o = c.args.options in
    rw (c.of_pair-then-options-gt-LIMIT.ensures, ne_eqb o.depth 0 c.if-options-eq0.false, le-ltb 64 o.depth c.if-options-gt64.false, lt-ltb 262144 o.limit c.if-options-gt-LIMIT.true)

pub returns : goal.returns
unfolding fault_of refusal options_fault options_of learned_limit refuse_if ◌otherwise◌
returns c =
    let o = c.args.options in
    rw (ne_eqb o.depth 0 c.if-options-eq0.false, le-ltb 64 o.depth c.if-options-gt64.false, le-ltb 262144 o.limit c.if-options-gt-LIMIT.false)
