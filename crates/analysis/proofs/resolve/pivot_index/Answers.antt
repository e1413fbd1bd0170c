-- `pivot_index` meets its contract. The invariant: the places that are left decide where the pivot is. Assumes nothing.
use Rattle.std.proofs.Common.{◌∙◌, arith}
use Rattle.analysis.specs.RoundLaws.{entry-low, pivot_back, pivot-here, pivot-none}
use Rattle.analysis.proofs.resolve.pivot_index.Goals as goal

pub load-requires-in-loop-i : goal.load-requires-in-loop-i
load-requires-in-loop-i c =
    (c.requires.0.words, omega arith, omega (arith, entry-low c.args.t c.args.words.now _ _ _ c.requires.1 (omega (arith, c.loop-i-test.true, c.loop-i.auto.i, c.requires.3)) c.load.ensures c.node.ensures, c.requires.0.variables))

pub returns-then-load-stamp : goal.returns-then-load-stamp
returns-then-load-stamp c =
    (pivot-here _ _ _ c.requires.2 c.requires.1 _ _ _ _ (omega (arith, c.loop-i.auto.i, c.requires.3)) c.loop-i-test.true c.load.ensures c.node.ensures c.load-in-loop-i.ensures c.if-load-stamp.true ∙ c.loop-i.invariant, omega (arith, c.loop-i.auto.i))

pub loop-i-preserved : goal.loop-i-preserved
loop-i-preserved c =
    pivot_back _ _ _ c.requires.2 c.requires.1 _ _ _ _ (omega (arith, c.loop-i.auto.i, c.requires.3)) c.loop-i-test.true c.load.ensures c.node.ensures c.load-in-loop-i.ensures c.if-load-stamp.false ∙ c.loop-i.invariant

pub returns : goal.returns
returns c =
    (pivot-none _ _ _ c.requires.2 c.requires.1 _ c.loop-i-test.false ∙ c.loop-i.invariant, omega arith)
