-- `unrolling::compare::compare_named_state` meets its contract. Assumes nothing.
use Rattle.std.proofs.Common.{◌<◌, arith, get_or, rules}
use Rattle.unrolling.specs.Matching.{at_match}
use Rattle.unrolling.specs.Matched.{under}
use Rattle.unrolling.specs.Naming.{named-paired}
use Rattle.unrolling.proofs.compare.compare_named_state.Goals as goal

pub compare-requires : goal.compare-requires
compare-requires c =
    record {
      room = (c.requires.0, c.requires.1, c.requires.2, c.requires.3);
      callable = λ i h. let m : i < 128 = omega (arith, h, c.requires.1) in let k = c.requires.4.small i h in search rules;
      told = (λ i. at_match (get_or c.args.matches.now i 0) c.args.gate.now, record { is = λ i o h p. search rules; below = λ i h. under _ _ _ (c.requires.4.at i h) });
    }

pub returns : goal.returns
returns c =
    let a = c.args in
    rw (named-paired a.n a.matches.now a.gold.now a.gate.now)
    at (c.compare.ensures (λ i. at_match (get_or a.matches.now i 0) a.gate.now) (record { is = λ i o h p. search rules; below = λ i h. under _ _ _ (c.requires.4.at i h) }))
