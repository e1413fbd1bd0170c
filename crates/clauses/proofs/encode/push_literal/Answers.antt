-- `push_literal` meets its contract: one store into the pool. Assumes nothing.
use Rattle.clauses.specs.PoolLaws.{pooled}
use Rattle.clauses.proofs.encode.push_literal.Goals as goal

pub returns : goal.returns
returns c =
    let a = c.args in
    pooled a.store a.t a.words.now a.count a.l.0 c.requires.0 c.requires.1 _ c.stash.ensures.0
