-- `decide` meets its contract: a level begins, then the literal is assigned. Assumes nothing.
use Rattle.std.proofs.Common.{sym, subst, ℕ, ◌<◌, arith}
use Rattle.words.specs.Layout.{DOUBLE}
use Rattle.assignment.specs.DecideLaws.{decides, decision-near}
use Rattle.assignment.proofs.trail.decide.Goals as goal

pub assign-requires : goal.assign-requires
assign-requires c =
    let e = c.push_limit-deeper.ensures in
    (e.0.ready, omega (arith, e.1, c.requires.1), subst (λ (l : ℕ). l < DOUBLE) (sym c.decision-literal.ensures) (decision-near _ c.args.variable c.requires.3))

pub returns : goal.returns
returns c =
    decides _ _ _ _ _ _ _ _ c.decision-literal.ensures c.push_limit-deeper.ensures.0 c.assign.ensures
