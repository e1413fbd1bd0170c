-- `all_below` is the definition's test of all literals. Assumes nothing.
use Rattle.std.proofs.Common.{sym, ◌∙◌, arith}
use Rattle.solver.specs.QueryLaws.{below_stop, below_more, below-done}
use Rattle.solver.proofs.all_below.Goals as goal

pub returns-then-literal-bound : goal.returns-then-literal-bound
returns-then-literal-bound c =
    sym (c.loop-literal.invariant ∙ below_stop _ c.args.literals.now c.loop-literal.literal-index (omega arith) c.if-literal-bound.true)

pub loop-literal-preserved : goal.loop-literal-preserved
loop-literal-preserved c =
    c.loop-literal.invariant ∙ below_more _ c.args.literals.now c.loop-literal.literal-index (omega arith) c.if-literal-bound.false

pub returns : goal.returns
returns c = sym (c.loop-literal.invariant ∙ below-done _ c.args.literals.now _ (omega arith))
