-- `depths::prove::deepen` meets its contract. The invariant: the depths that are left give the outcome of all. Assumes nothing.
use Rattle.std.proofs.Common.{◌≡◌, ◌+◌, ◌-◌, ◌<◌, ◌≤◌, arith}
use Rattle.depths.specs.Depths.{left-none, depth-asked, left-more, stopped, ended}
use Rattle.depths.proofs.prove.deepen.Goals as goal

pub loop-depth-init : goal.loop-depth-init
loop-depth-init c = left-none _ _ _ _ _ _

pub at_depth-requires : goal.at_depth-requires
at_depth-requires c =
    let l = c.loop-depth in
    let e : (l.depth - 1) + 1 ≡ l.depth = omega (arith, l.auto.depth) in
    let h : l.depth - 1 < c.args.options.depth = omega (arith, l.auto.depth, c.loop-depth-test.true) in
    rw e at (depth-asked _ _ _ _ _ _ _ c.requires (l.depth - 1) _ _ _ l.invariant _ h l.auto.words l.auto.scores)

pub loop-depth-preserved : goal.loop-depth-preserved
loop-depth-preserved c =
    let l = c.loop-depth in
    let e : (l.depth - 1) + 1 ≡ l.depth = omega (arith, l.auto.depth) in
    let z : (l.depth + 1) - 1 ≡ (l.depth - 1) + 1 = omega (arith, l.auto.depth) in
    let h : l.depth - 1 < c.args.options.depth = omega (arith, l.auto.depth, c.loop-depth-test.true) in
    let passed = rw (← e) at c.at_depth.ensures in
    rw z (left-more _ _ _ _ _ _ _ c.requires (l.depth - 1) _ _ _ l.invariant h _ _ _ passed _ c.in-Continue.is)

pub returns-in-Break : goal.returns-in-Break
returns-in-Break c =
    let l = c.loop-depth in
    let e : (l.depth - 1) + 1 ≡ l.depth = omega (arith, l.auto.depth) in
    let h : l.depth - 1 < c.args.options.depth = omega (arith, l.auto.depth, c.loop-depth-test.true) in
    let passed = rw (← e) at c.at_depth.ensures in
    stopped _ _ _ _ _ _ _ c.requires (l.depth - 1) _ _ _ l.invariant h _ _ _ passed _ c.in-Break.is

pub returns : goal.returns
returns c =
    let l = c.loop-depth in
    let low : c.args.options.depth ≤ l.depth - 1 = omega (arith, c.loop-depth-test.false) in
    let high : l.depth - 1 ≤ c.args.options.depth = omega (arith, l.auto.depth-end (omega arith)) in
    ended _ _ _ _ _ _ _ c.requires (l.depth - 1) _ _ _ l.invariant low high

pub overflow_cast-result : goal.overflow_cast-result
overflow_cast-result c = omega (arith, c.requires.shallow)
