-- `add_assumptions` meets its contract. The invariant: the assumptions that are left are to be added, and there is room for them. Assumes nothing.
use Rattle.std.proofs.Common.{◌<◌, get_or-take, length-take-le, arith, rules}
use Rattle.clauses.specs.AssumptionLaws.{assuming_next, assuming_done}
use Rattle.clauses.proofs.encode.add_assumptions.Goals as goal

pub loop-literal-preserved : goal.loop-literal-preserved
loop-literal-preserved c =
    let l = c.loop-literal in
    let a = c.args in
    let h : l.literal-index < a.count = omega (arith, length-take-le a.count a.literals.now c.requires.1) in (
      search rules,
      search rules,
      assuming_next a.t a.literals.now a.count a.start a.words.now a.scores.now c.requires.0 c.requires.1 l.e l.words l.scores l.literal-index l.invariant.2 h _ _ _ c.add_assumption-e.ensures.0
          (λ s. rw (get_or-take a.count a.literals.now l.literal-index 0 h) at (c.add_assumption-e.ensures.1 s)),
    )

pub returns : goal.returns
returns c =
    let l = c.loop-literal in
    let a = c.args in
    assuming_done a.t a.literals.now a.count a.start a.words.now a.scores.now c.requires.0 c.requires.1 l.e l.words l.scores l.literal-index l.invariant.2
    (omega (arith, length-take-le a.count a.literals.now c.requires.1))
