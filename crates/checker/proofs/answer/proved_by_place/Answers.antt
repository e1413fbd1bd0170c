-- `proved_by_place` has the cycle of each place. Assumes nothing.
use Rattle.std.proofs.Common.{arith, lt-ltb, le-ltb}
use Rattle.calls.specs.Answers.{proved_of}
use Rattle.laws.specs.Terms.{proved_by_place}
use Rattle.checker.proofs.answer.proved_by_place.Goals as goal

pub returns-then-query-gt1 : goal.returns-then-query-gt1
unfolding proved_of proved_by_place
returns-then-query-gt1 c = rw (lt-ltb 1 c.args.query c.if-query-gt1.true)

pub returns-then-depth-gt1 : goal.returns-then-depth-gt1
unfolding proved_of proved_by_place
returns-then-depth-gt1 c = let a = c.args in rw (le-ltb 1 a.query c.if-query-gt1.false, lt-ltb 1 a.depth c.if-depth-gt1.true)

pub returns-then-query-first : goal.returns-then-query-first
unfolding proved_of proved_by_place
returns-then-query-first c =
    let f = c.first_query-first in
    let a = c.args in
    rw (le-ltb 1 a.query c.if-query-gt1.false, le-ltb 1 a.depth c.if-depth-gt1.false, ← f.ensures, lt-ltb f.result a.query c.if-query-first.true)

pub returns : goal.returns
unfolding proved_of proved_by_place
returns c =
    let f = c.first_query-first in
    let a = c.args in
    rw (le-ltb 1 a.query c.if-query-gt1.false, le-ltb 1 a.depth c.if-depth-gt1.false, ← f.ensures, le-ltb f.result a.query c.if-query-first.false)

pub overflow_sub-result : goal.overflow_sub-result
overflow_sub-result c = omega (arith, c.if-depth-gt1.true)
