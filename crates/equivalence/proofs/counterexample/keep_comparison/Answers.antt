-- `equivalence::counterexample::keep_comparison` meets its contract. Assumes nothing.
use Rattle.equivalence.specs.Rows.{kept-comparison}
use Rattle.equivalence.proofs.counterexample.keep_comparison.Goals as goal

pub returns : goal.returns
returns c =
    rw c.stash.ensures.0
    (kept-comparison c.args.input_count c.args.output_count c.args.cycle _ _ _ _ _ _ _ _ c.requires.2 c.requires.3 c.requires.1 c.keep_row.ensures c.keep_row-2.ensures c.keep_row-3.ensures)
