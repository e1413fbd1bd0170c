-- `equivalence::counterexample::counterexample_cycle` meets its contract. Assumes nothing.
use Rattle.equivalence.specs.Counterexample.{compared_next}
use Rattle.equivalence.proofs.counterexample.counterexample_cycle.Goals as goal

pub keep_comparison-requires : goal.keep_comparison-requires
keep_comparison-requires c =
    (c.or-made.ensures.ready.long, c.requires.2, c.requires.0.paired.gold.input_count_lem, c.requires.0.paired.gold.output_count_lem)

pub returns : goal.returns
returns c =
    compared_next c.args.gold.now c.args.gate.now c.args.cycle _ _ _ _ _ c.requires.0 _ _ _ _ _ _ _ _ c.compared_cycle-compared.ensures _ _ _ c.or-made.ensures _ c.keep_comparison.ensures
