-- `add_ones` meets its contract. The invariant: the scores of the literals so far are raised by one, and their blocks forgotten. Assumes nothing.
use Rattle.std.proofs.Common.{◌≡◌, ap, ◌∙◌, ◌≤◌, arith, length, get_or}
use Rattle.words.specs.Layout.{LITERALS}
use Rattle.words.specs.Region.{region, length-region}
use Rattle.assignment.specs.OnesLaws.{adding_step, adds_ones}
use lib.Ieee as Ieee
use Rattle.model.specs.Literal as Literals
use Rattle.model.specs.Sat as Sat
use Rattle.assignment.proofs.scores.add_ones.Goals as goal

pub loop-i-preserved : goal.loop-i-preserved
unfolding Sat.score_one Ieee.of_bits
loop-i-preserved c =
    let w = c.args.words.now in
    let k : c.args.end ≤ length (region LITERALS w) = omega (arith, length-region LITERALS w (omega (arith, c.requires.0.words))) in
    let e : c.node-variable.result ≡ Literals.node (get_or (region LITERALS c.loop-i.words) c.loop-i.i 0) = c.node-variable.ensures ∙ ap Literals.node c.load.ensures in
    (adding_step _ _ _ _ _ _ _ _ _ _ _ k c.loop-i.invariant.0 c.loop-i-test.true e c.add_score.ensures c.forget.ensures, c.forget.auto.words ∙ c.loop-i.invariant.1)

pub returns : goal.returns
returns c = adds_ones _ _ _ _ _ _ _ _ c.loop-i.invariant.0 c.loop-i-test.false
