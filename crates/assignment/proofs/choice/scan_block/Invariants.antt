-- `scan_block` meets its contract. The invariant: the best of the block's variables so far. Assumes nothing.
use Rattle.assignment.specs.ChooseLaws.{Scanning}
use Rattle.assignment.proofs.choice.scan_block.Given as goal

abbrev pub invariant-loop-variable : goal.invariant-loop-variable
invariant-loop-variable l = Scanning l.t l.words l.scores l.block l.best l.variable
