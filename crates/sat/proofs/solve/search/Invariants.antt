-- `search` meets its contract. The invariant: the rounds that are left decide, and do not run out. Assumes nothing.
use Rattle.std.proofs.Common.{◌≡◌, ◌-◌, length}
use Rattle.sat.specs.SolveLaws.{Rounds}
use Rattle.sat.proofs.solve.search.Given as goal

abbrev pub invariant-loop-round : goal.invariant-loop-round
invariant-loop-round l = (length l.words ≡ length l.initial.words) × Rounds l.limit l.initial.s l.initial.words l.initial.scores l.rounds l.s l.words l.scores (l.rounds - l._round)
