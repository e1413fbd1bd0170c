-- `unrolling::variables::new_variables` meets its contract. Assumes nothing.
use Rattle.std.proofs.Common.{rules}
use Rattle.std.proofs.Math.Option.{none}
use Rattle.unrolling.specs.Matched.{all-new}
use Rattle.unrolling.proofs.variables.new_variables.Goals as goal

pub literals_by-requires : goal.literals_by-requires
literals_by-requires c =
    record {
      room = c.requires;
      callable = λ i h. search rules;
      told = (λ i. none, record { is = λ i o h p. search rules; below = λ i h. tt });
    }

pub returns : goal.returns
returns c = rw (all-new c.args.n) at (c.literals_by.ensures (λ i. none) (record { is = λ i o h p. search rules; below = λ i h. tt }))
