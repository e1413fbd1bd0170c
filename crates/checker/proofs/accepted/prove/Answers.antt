-- `prove` proves the problem of both sides, clears the work memory and answers the verdict. Assumes nothing.
use Rattle.std.proofs.Common.{◌∙◌, rules}
use Rattle.calls.specs.Options.{options_of}
use Rattle.model.specs.Check.{check_designs}
use Rattle.refusals.specs.RefusalLaws.{accepted}
use Rattle.checker.specs.Proving.{provable}
use Rattle.checker.specs.ResultLaws.{most-small, answer_of_lem, proved, words_enough}
use Rattle.checker.proofs.accepted.prove.Goals as goal

pub sides-problem-requires : goal.sides-problem-requires
sides-problem-requires c = words_enough _ _ _ _ _ _ c.requires

pub prove_sequential_equivalence-outcome-requires : goal.prove_sequential_equivalence-outcome-requires
unfolding options_of
prove_sequential_equivalence-outcome-requires c =
    let p = c.args.pair.now in
    provable _ _ _ _ _ _ _ _ _ _ _ _ p.gold.sided p.gate.sided c.sides-problem.ensures (accepted _ _ _ _ c.requires)

pub answered-requires : goal.answered-requires
unfolding options_of
answered-requires c =
    most-small _ _ _ _ _ (accepted _ _ _ _ c.requires).limit_small (c.prove_sequential_equivalence-outcome.ensures.most _ c.sides-problem.ensures.stands)

pub returns : goal.returns
unfolding check_designs options_of
returns c =
    let m = c.sides-problem.ensures in
    let v = c.prove_sequential_equivalence-outcome.ensures in
    proved _ _ _ _ _ _ _ _ _ _ (c.answered.ensures ∙ answer_of_lem _ _ _ _ _ _ (v.answer _ m.stands) (v.most _ m.stands)) (v.traced _ m.stands) c.clear_memory.ensures.0 c.clear_memory.ensures.1 (search rules) (search rules)
