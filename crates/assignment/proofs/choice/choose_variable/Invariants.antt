-- `choose_variable` meets its contract. The invariant: the best of the blocks so far, and what their words say holds. Assumes nothing.
use Rattle.assignment.specs.ChooseLaws.{Choosing}
use Rattle.assignment.proofs.choice.choose_variable.Given as goal

abbrev pub invariant-loop-block : goal.invariant-loop-block
invariant-loop-block l = Choosing l.t l.initial.words l.scores l.block l.best l.words
