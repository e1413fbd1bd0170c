-- `too_short` tests the trace, then the words, then the scores. Assumes nothing.
use Rattle.std.proofs.Common.{◌+◌, ◌*◌, sym, ◌∙◌, arith, lt-ltb, le-ltb}
use Rattle.calls.specs.Options.{lent_of}
use Rattle.words.specs.Layout.{LENT}
use Rattle.refusals.specs.RefusalLaws.{product_small, short_within}
use Rattle.refusals.proofs.too_short.Goals as goal

pub overflow_mul-rows : goal.overflow_mul-rows
overflow_mul-rows c = omega (arith, product_small (c.args.depth + 1) c.args.inputs 65 128 (omega arith) c.requires.0)

pub overflow_add-rows-2 : goal.overflow_add-rows-2
overflow_add-rows-2 c = omega (arith, product_small (c.args.depth + 1) c.args.inputs 65 128 (omega arith) c.requires.0)

pub returns-then-lent-rows : goal.returns-then-lent-rows
unfolding lent_of
returns-then-lent-rows c =
    let a = c.args in
    sym (short_within a.inputs a.outputs a.depth (lent_of a.lent) ∙ rw (lt-ltb a.lent.trace ((a.depth + 1) * a.inputs + a.outputs) c.if-lent-rows.true))

pub returns-then-lent-lt-LENT : goal.returns-then-lent-lt-LENT
unfolding lent_of
returns-then-lent-lt-LENT c =
    let a = c.args in
    sym (short_within a.inputs a.outputs a.depth (lent_of a.lent) ∙ rw (le-ltb a.lent.trace ((a.depth + 1) * a.inputs + a.outputs) c.if-lent-rows.false, lt-ltb a.lent.words LENT c.if-lent-lt-LENT.true))

pub returns : goal.returns
unfolding lent_of
returns c =
    let a = c.args in
    sym (short_within a.inputs a.outputs a.depth (lent_of a.lent) ∙ rw (le-ltb a.lent.trace ((a.depth + 1) * a.inputs + a.outputs) c.if-lent-rows.false, le-ltb a.lent.words LENT c.if-lent-lt-LENT.false))
