-- `node_values` evaluates the nodes in order: the values so far, the nodes left, and false past the values. Assumes nothing.
use Rattle.std.proofs.Common.{◌≡◌, false, List, ℕ, ◌-◌, length, take, drop, replicate}
use Rattle.drivers.specs.Drivers.{Drivers}
use Rattle.model.specs.Names.{Place}
use Rattle.model.specs.Run.{values_from, node_values}
use Rattle.struo_ir.specs.Decoded.{decoded}
use Rattle.run.specs.RunTables.{Ranked, row_inputs}
use Rattle.run.proofs.run.node_values.Given as goal

abbrev pub invariant-loop-i : goal.invariant-loop-i
invariant-loop-i l =
    (length l.values ≡ 1024) × (drop l.i l.values ≡ replicate (1024 - l.i) false) ×
    ((s : List ℕ) (ins : List Place) → Ranked s ins l.netlist l.ranks → Drivers l.netlist l.drivers
    → node_values (decoded s l.netlist) (row_inputs l.claim l.at ins) (take l.netlist.register_count l.stored)
    ≡ values_from (decoded s l.netlist).registers (row_inputs l.claim l.at ins) (take l.netlist.register_count l.stored) l.i (drop l.i (decoded s l.netlist).nodes) (take l.i l.values))
