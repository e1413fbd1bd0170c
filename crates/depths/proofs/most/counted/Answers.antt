-- `counted` takes the later query only where its total is above the most before it. Assumes nothing.
use Rattle.std.proofs.Common.{lt-ltb, le-ltb}
use Rattle.calls.specs.Answers.{asked_of}
use Rattle.model.specs.Equivalence.{larger_learned}
use Rattle.depths.proofs.most.counted.Goals as goal

pub returns-then-most-learned : goal.returns-then-most-learned
unfolding asked_of larger_learned
returns-then-most-learned c = rw (← c.total-learned.ensures, lt-ltb c.args.most.learned c.total-learned.result c.if-most-learned.true)

pub returns-else-most-learned : goal.returns-else-most-learned
unfolding asked_of larger_learned
returns-else-most-learned c = rw (← c.total-learned.ensures, le-ltb c.args.most.learned c.total-learned.result c.if-most-learned.false)
