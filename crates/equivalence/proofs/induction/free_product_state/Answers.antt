-- `equivalence::induction::free_product_state` meets its contract. Assumes nothing.
use Rattle.std.proofs.Common.{refl, arith}
use Rattle.unrolling.specs.Naming.{matches-below}
use Rattle.equivalence.specs.FreeState.{freed}
use Rattle.equivalence.proofs.induction.free_product_state.Goals as goal

pub gate_variables-other-requires : goal.gate_variables-other-requires
gate_variables-other-requires c =
    let m = c.new_variables-made.ensures in
    (m.ready, c.requires.2, omega (arith, m.within, c.requires.3), matches-below _ _ c.args.gold.now.state_count _ _ c.requires.1 c.requires.4 m.below)

pub returns : goal.returns
returns c =
    (freed _ _ _ _ _ _ _ _ _ _ _ _ c.requires.4 c.new_variables-made.ensures c.gate_variables-other.ensures, refl)
