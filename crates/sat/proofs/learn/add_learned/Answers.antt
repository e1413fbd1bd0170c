-- `add_learned` meets its contract: the literals in the pool become a clause. Assumes nothing.
use Rattle.sat.specs.LearnLaws.{learned-asked, learned_added}
use Rattle.sat.proofs.learn.add_learned.Goals as goal

pub add_clause-requires : goal.add_clause-requires
add_clause-requires c =
    learned-asked _ _ _ _ _ _ c.args.scores.now c.push_learned.ensures c.requires.1 c.requires.3 c.requires.4 c.requires.5 c.requires.6 c.requires.7 c.requires.8

pub returns : goal.returns
returns c =
    learned_added _ _ _ _ _ _ _ _ _ _ c.push_learned.ensures c.requires.0.formed.ready.words c.requires.2 c.add_clause.ensures
