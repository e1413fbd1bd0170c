-- `many_domains` compares every register's domain with the first one's. Assumes nothing.
use Rattle.std.proofs.Common.{◌≡◌, ℕ, ◌<◌, List, not, drop, get_or}
use Rattle.model.specs.Netlist.{input_name}
use Rattle.model.specs.Pair.{name_or, domain_of, all_in, many_domains}
use Rattle.struo_ir.specs.Decoded.{decoded_node, decoded_register, decoded}
use Rattle.struo_ir.specs.Registers.{no_register}
use lib.ListN.{get_elem?}
use Rattle.model.specs.Pair as Pair
use Rattle.pair.proofs.checks.many_domains.Given as goal

abbrev pub invariant-loop-k : goal.invariant-loop-k
invariant-loop-k l =
    (l.count ≡ l.netlist.register_count) × (0 < l.count) × (l.first ≡ get_or l.netlist.registers 0 no_register) ×
    ((s : List ℕ) → name_or (input_name (decoded_node s l.clock)) ≡ Pair.name_at (get_elem? (decoded s l.netlist).nodes l.first.clock)) ×
    (many_domains (decoded l.bytes l.netlist).nodes (decoded l.bytes l.netlist).registers
    ≡ not (all_in (decoded l.bytes l.netlist).nodes (domain_of (decoded l.bytes l.netlist).nodes (decoded_register l.bytes l.first)) (drop l.k (decoded l.bytes l.netlist).registers)))
