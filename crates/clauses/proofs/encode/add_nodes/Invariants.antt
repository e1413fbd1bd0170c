-- `add_nodes` meets its contract. The invariant: the nodes that are left are to be added, and there is room for them. Assumes nothing.
use Rattle.std.proofs.Common.{◌≡◌, length}
use Rattle.clauses.specs.GateLaws.{Nodes}
use Rattle.clauses.proofs.encode.add_nodes.Given as goal

abbrev pub invariant-loop-i : goal.invariant-loop-i
invariant-loop-i l = (length l.words ≡ length l.initial.words) × (length l.scores ≡ length l.initial.scores) × Nodes l.t l.initial.store l.initial.words l.initial.scores l.store l.words l.scores l.i
