-- `analyze` meets its contract. The invariant: the rounds that are left decide. Assumes nothing.
use Rattle.std.proofs.Common.{◌<◌, arith}
use borrow.Author.Count.{falls_down}
use Rattle.analysis.specs.AnalyzeLaws.{ranged_kept, resolving-begins, analyzes, round-some, round_room, round-more}
use Rattle.analysis.specs.RoundLaws.{Found, found}
use Rattle.analysis.specs.SeeLaws.{node-below}
use Rattle.analysis.proofs.resolve.analyze.Goals as goal
use Rattle.analysis.proofs.resolve.analyze.Goals.{After-fetch_below, After-reason_of-clause}

-- where the pivot is, and what it is
met : (c : After-fetch_below) →
    Found c.see_clause-a.result.stamp c.args.t c.see_clause-a.new.words c.loop-a.trail_index c.pivot_index-trail_index.result c.fetch_below.result
met c =
    let g = c.loop-a.invariant in
    found _ _ _ _ _ _ _ (ranged_kept _ _ c.see_clause-a.ensures.frame g.ranged) g.place c.pivot_index-trail_index.ensures c.fetch_below.ensures

-- a round was left
left-some : (c : After-reason_of-clause) →
    0 < c.loop-a.rounds
left-some c =
    round-some _ _ _ _ _ _ c.loop-a.invariant

pub loop-a-init : goal.loop-a-init
loop-a-init c =
    resolving-begins _ _ _ _ _ _ _ c.start-a.ensures c.requires.0 c.requires.1 c.requires.2 c.requires.4 c.requires.5 c.requires.6

pub see_clause-a-requires : goal.see_clause-a-requires
see_clause-a-requires c =
    let g = c.loop-a.invariant in
    (g.able, g.ranged.clauses, omega (arith, g.opened), round_room _ _ _ _ _ _ g)

pub returns-then-a-eq0 : goal.returns-then-a-eq0
returns-then-a-eq0 c =
    let m = met (goal.at.returns-then-a-eq0 c).After-fetch_below in
    analyzes _ _ _ _ _ _ _ c.start-a.ensures c.loop-a.invariant _ _ c.see_clause-a.ensures m.at m.is c.close_pivot-a.ensures c.if-a-eq0.true

pub reason_of-clause-requires : goal.reason_of-clause-requires
reason_of-clause-requires c =
    let y = c.loop-a.invariant.able.ready in
    let m = met (goal.at.reason_of-clause-requires c).After-fetch_below in
    (record { words = c.close_pivot-a.ensures.words; variables = y.variables; literals = y.literals; levels = y.levels }, rw c.node-resolved.ensures (node-below _ _ m.range))

pub overflow_sub-rounds : goal.overflow_sub-rounds
overflow_sub-rounds c = left-some c

pub loop-a-smaller : goal.loop-a-smaller
loop-a-smaller c = falls_down _ (left-some c)

pub loop-a-preserved : goal.loop-a-preserved
loop-a-preserved c =
    let m = met (goal.at.loop-a-preserved c).After-fetch_below in
    round-more _ _ _ _ _ _ c.loop-a.invariant _ _ c.see_clause-a.ensures m.at m.is c.close_pivot-a.ensures _ _ m.place c.if-a-eq0.false c.node-resolved.ensures c.reason_of-clause.ensures c.see_clause-a.auto.words
    c.close_pivot-a.auto.words c.close_pivot-a.ensures.words
