-- `equivalence::counterexample::base_counterexample` meets its contract. Assumes nothing.
use Rattle.std.proofs.Common.{arith}
use Rattle.equivalence.specs.Counterexample.{startable_compared, compares}
use Rattle.equivalence.proofs.counterexample.base_counterexample.Goals as goal

pub counterexample_cycles-requires : goal.counterexample_cycles-requires
counterexample_cycles-requires c =
    let s = c.start-start.ensures in
    (rw (s.0, s.4, s.5) (startable_compared c.args.gold.now c.args.gate.now _ _ c.args.depth _ _ c.requires s.3 s.2), omega (arith, s.0, s.6), omega (arith, c.requires.depth_small))

pub returns : goal.returns
returns c =
    let s = c.start-start.ensures in
    let left = rw (s.0, s.4, s.5, s.6) at c.counterexample_cycles.ensures in
    compares c.args.gold.now c.args.gate.now _ _ c.args.depth _ _ c.requires s.3 s.2 _ _ _ _ _ s.1 left
