-- `replacement` meets its contract. The invariant: the literals from here on decide. Assumes nothing.
use Rattle.std.proofs.Common.{◌<◌, sym, ◌∙◌, arith}
use Rattle.clauses.specs.ClauseLaws.{spare_start, spare_range, spare_stands, spare_found, spare_next, spare_none}
use Rattle.clauses.proofs.clause.replacement.Goals as goal

pub loop-at-init : goal.loop-at-init
loop-at-init c =
    let a = c.args in
    (omega arith, λ k. spare_start a.t a.words.now a.c k)

pub can_watch-requires : goal.can_watch-requires
can_watch-requires c =
    let a = c.args in
    (c.requires.ready, spare_range a.t a.words.now a.c c.requires c.loop-at.at _ c.loop-at.invariant.0 (omega (arith, c.loop-at-test.true)) c.load.ensures)

pub returns-then-can_watch : goal.returns-then-can_watch
returns-then-can_watch c =
    let a = c.args in
    let h : c.loop-at.at < a.c.end = omega (arith, c.loop-at-test.true) in
    record {
      is = spare_found a.t a.words.now a.c c.requires c.loop-at.at _ c.loop-at.invariant.0 h c.load.ensures (sym c.if-can_watch.true ∙ c.can_watch.ensures) (c.loop-at.invariant.1 c.requires);
      found = spare_stands a.t a.words.now a.c c.requires c.loop-at.at _ c.loop-at.invariant.0 h c.load.ensures;
    }

pub loop-at-preserved : goal.loop-at-preserved
loop-at-preserved c =
    let a = c.args in
    let h : c.loop-at.at < a.c.end = omega (arith, c.loop-at-test.true) in
    (omega (arith, c.loop-at.invariant.0), λ k. spare_next a.t a.words.now a.c k c.loop-at.at _ c.loop-at.invariant.0 h c.load.ensures (sym c.if-can_watch.false ∙ c.can_watch.ensures) (c.loop-at.invariant.1 k))

pub returns : goal.returns
returns c =
    let a = c.args in
    record { is = spare_none a.t a.words.now a.c c.requires c.loop-at.at (omega (arith, c.loop-at-test.false)) (c.loop-at.invariant.1 c.requires); found = tt }
