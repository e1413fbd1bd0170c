-- `initialize_units` meets its contract. The invariant: the clauses that are left decide. Assumes nothing.
use Rattle.std.proofs.Common.{◌≡◌, length}
use Rattle.watches.specs.UnitLaws.{Units}
use Rattle.watches.proofs.units.initialize_units.Given as goal

abbrev pub invariant-loop-id : goal.invariant-loop-id
invariant-loop-id l = (length l.words ≡ length l.initial.words) × Units l.store l.initial.t l.initial.words l.t l.words l.id
