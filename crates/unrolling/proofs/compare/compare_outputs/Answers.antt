-- `unrolling::compare::compare_outputs` meets its contract. Assumes nothing.
use Rattle.std.proofs.Common.{◌<◌, arith, get_or, rules}
use Rattle.std.proofs.Math.Option.{some}
use Rattle.unrolling.specs.Naming.{all-paired}
use Rattle.unrolling.proofs.compare.compare_outputs.Goals as goal

pub compare-requires : goal.compare-requires
compare-requires c =
    record {
      room = (c.requires.0, c.requires.1, c.requires.2, c.requires.3);
      callable = λ i h. let m : i < 128 = omega (arith, h, c.requires.1) in search rules;
      told = (λ i. some (get_or c.args.gate.now i 0), record { is = λ i o h p. search rules; below = c.requires.4.at });
    }

pub returns : goal.returns
returns c =
    let a = c.args in
    rw (all-paired a.n a.gold.now a.gate.now) at (c.compare.ensures (λ i. some (get_or a.gate.now i 0)) (record { is = λ i o h p. search rules; below = c.requires.4.at }))
