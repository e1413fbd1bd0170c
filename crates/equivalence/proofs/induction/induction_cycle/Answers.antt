-- `equivalence::induction::induction_cycle` meets its contract. Assumes nothing.
use Rattle.std.proofs.Common.{arith, length-set}
use Rattle.lowering.specs.Firsts.{below_le}
use Rattle.unrolling.specs.Naming.{matches-below}
use Rattle.equivalence.specs.Inducing.{cycled}
use Rattle.equivalence.proofs.induction.induction_cycle.Goals as goal

pub cycle_mismatch-made-requires : goal.cycle_mismatch-made-requires
cycle_mismatch-made-requires c =
    let m = c.compared_cycle-cycle.ensures in (
      m.ready,
      c.requires.0.paired.gold.state_count,
      omega (arith, m.within, c.requires.0.room),
      m.mismatch,
      below_le _ _ _ _ (omega (arith, m.grows)) c.requires.0.gold_state_lem,
      matches-below _ _ c.args.gate.now.state_count _ _ c.requires.0.paired.gate.state_count c.requires.1 (below_le _ _ _ _ (omega (arith, m.grows)) c.requires.0.gate_state_lem),
    )

pub returns : goal.returns
returns c = (
  cycled _ _ _ _ _ _ _ _ _ _ _ _ _ _ _ _ _ _ _ c.requires.0.paired c.requires.1 c.compared_cycle-cycle.ensures _ _ _ c.cycle_mismatch-made.ensures _ c.assumed-literal.ensures (omega (arith, c.requires.2, c.requires.3)),
  simp length-set c.requires.3,
)
