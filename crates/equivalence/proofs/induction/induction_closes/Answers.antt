-- `equivalence::induction::induction_closes` meets its contract. Assumes nothing.
use Rattle.std.proofs.Common.{arith}
use Rattle.equivalence.specs.FreeState.{startable-free, induces}
use Rattle.equivalence.proofs.induction.induction_closes.Goals as goal

pub free_product_state-start-requires : goal.free_product_state-start-requires
free_product_state-start-requires c =
    let e = c.new-aig.ensures.0 in
    (rw e c.new-aig.ensures.2, c.requires.paired.gold.state_count, c.requires.paired.gate.state_count, rw e (omega (arith, c.requires.room)), c.requires.gate_matches)

pub induction_cycles-requires : goal.induction_cycles-requires
induction_cycles-requires c =
    let g = rw c.new-aig.ensures.0 at c.free_product_state-start.ensures.0 in
    (startable-free c.args.gold.now c.args.gate.now _ _ c.args.depth _ _ _ _ _ _ c.requires.paired c.new-aig.ensures.3 c.requires.room g, c.requires.gold_matches, c.requires.depth_small, c.free_product_state-start.ensures.1)

pub returns : goal.returns
returns c =
    let g = rw c.new-aig.ensures.0 at c.free_product_state-start.ensures.0 in
    induces c.args.gold.now c.args.gate.now _ _ c.args.depth _ _ _ _ _ _ c.requires.paired c.new-aig.ensures.3 c.requires.room g _ _ _ _ _ c.new-aig.ensures.1 c.induction_cycles.ensures
