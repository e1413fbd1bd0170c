-- `copy_graph` meets its contract. Assumes nothing.
use Rattle.std.proofs.Common.{◌≤◌, length}
use Rattle.words.specs.Layout.{LENT}
use Rattle.lowering.specs.System.{Copying}
use Rattle.lowering.proofs.copy.copy_graph.Given as goal

-- the first i nodes are copied
abbrev pub invariant-loop-i : goal.invariant-loop-i
invariant-loop-i l = (LENT ≤ length l.words) × Copying l.base l.initial.words l.i l.words
