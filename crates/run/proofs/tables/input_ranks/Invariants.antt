-- `input_ranks` fills the table in order: every entry below `i` is its node's rank. Assumes nothing.
use Rattle.std.proofs.Common.{◌≡◌, ℕ, ◌<◌, length, get_or}
use Rattle.struo_ir.specs.Nodes.{no_node}
use Rattle.struo_ir.specs.Orders.{places}
use Rattle.run.specs.RunTables.{input_rank}
use Rattle.run.proofs.tables.input_ranks.Given as goal

abbrev pub invariant-loop-i : goal.invariant-loop-i
invariant-loop-i l =
    (length l.ranks ≡ 1024) × ((k : ℕ) → k < l.i → get_or l.ranks k 0 ≡ input_rank l.bytes (places l.gold l.order) (get_or l.netlist.nodes k no_node))
