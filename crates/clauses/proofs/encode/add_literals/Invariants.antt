-- `add_literals` meets its contract. The invariant: the literals so far are in the pool. Assumes nothing.
use Rattle.std.proofs.Common.{◌≡◌, length}
use Rattle.clauses.specs.PoolLaws.{Pooling}
use Rattle.clauses.specs.State.{numbers}
use Rattle.clauses.proofs.encode.add_literals.Given as goal

abbrev pub invariant-loop-i : goal.invariant-loop-i
invariant-loop-i l = (length l.scores ≡ length l.initial.scores) × Pooling l.store l.t l.initial.words (numbers l.literals) l.i l.words
