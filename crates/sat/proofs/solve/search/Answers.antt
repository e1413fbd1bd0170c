-- `search` meets its contract. The invariant: the rounds that are left decide, and do not run out. Assumes nothing.
use Rattle.std.proofs.Common.{◌≡◌, ◌-◌, ◌+◌, arith, rules}
use Rattle.sat.specs.SolveLaws.{some_left, rounds-next, rounds-answered}
use Rattle.sat.proofs.solve.search.Goals as goal

pub loop-round-preserved : goal.loop-round-preserved
loop-round-preserved c =
    let l = c.loop-round in
    let e : c.args.rounds - (l._round + 1) ≡ c.args.rounds - l._round - 1 = omega arith in
    (search rules, rw e (rounds-next _ _ _ _ _ l.s l.words l.scores _ l.invariant.1 _ _ _ c.step.ensures _ c.in-Continue.is))

pub returns-in-Break : goal.returns-in-Break
returns-in-Break c =
    let l = c.loop-round in
    rounds-answered _ _ _ _ _ l.s l.words l.scores _ l.invariant.1 _ _ _ c.step.ensures _ c.in-Break.is

pub unreachable-requires : goal.unreachable-requires
unreachable-requires c =
    let l = c.loop-round in
    omega (arith, some_left _ _ _ _ _ l.s l.words l.scores _ l.invariant.1)
