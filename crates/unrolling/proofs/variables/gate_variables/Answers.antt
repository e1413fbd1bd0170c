-- `unrolling::variables::gate_variables` meets its contract. Assumes nothing.
use Rattle.std.proofs.Common.{◌<◌, get_or, arith, rules}
use Rattle.unrolling.specs.Matched.{by_matches, under_shared}
use Rattle.unrolling.specs.Matching.{at_match, shared_match}
use Rattle.unrolling.proofs.variables.gate_variables.Goals as goal

pub literals_by-requires : goal.literals_by-requires
literals_by-requires c =
    let a = c.args in
    record {
      room = (c.requires.0, c.requires.1, c.requires.2);
      callable = λ i h. let m : i < 128 = omega (arith, h, c.requires.1) in let k = c.requires.3.small i h in search rules;
      told = (λ i. at_match (shared_match a.share (get_or a.matches.now i 0)) a.gold.now, record { is = λ i o h p. search rules; below = λ i h. under_shared _ a.share _ _ (c.requires.3.at i h) });
    }

pub returns : goal.returns
returns c =
    let a = c.args in
    rw (by_matches a.n a.share a.matches.now a.gold.now)
    at (c.literals_by.ensures (λ i. at_match (shared_match a.share (get_or a.matches.now i 0)) a.gold.now) (record { is = λ i o h p. search rules; below = λ i h. under_shared _ a.share _ _ (c.requires.3.at i h) }))
