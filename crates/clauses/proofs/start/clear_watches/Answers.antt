-- `clear_watches` meets its contract: the counts of the variables' literals and the first start are 0. Assumes nothing.
use Rattle.std.proofs.Common.{ℕ, ap, ◌∙◌, List}
use Rattle.words.specs.Layout.{CLAUSE-STARTS}
use Rattle.words.specs.Region.{stored}
use Rattle.clauses.proofs.ClearLaws.{no-clause}
use Rattle.clauses.specs.State.{cleared_words}
use Rattle.clauses.proofs.start.clear_watches.Goals as goal

pub returns : goal.returns
unfolding cleared_words
returns c =
    no-clause c.args.variables c.args.words.now c.requires.0 _ (c.stash.ensures.0 ∙ ap (λ (x : List ℕ). stored CLAUSE-STARTS x 0 0) c.clear.ensures.0)
