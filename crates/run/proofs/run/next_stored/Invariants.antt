-- `next_stored` writes the next bits in order: those written, then those of the registers left. The rest of the new row stays. Assumes nothing.
use Rattle.std.proofs.Common.{◌≡◌, List, ◌++◌, ℕ, length, take, drop}
use Rattle.model.specs.Run.{next_from, next_stored}
use Rattle.struo_ir.specs.Decoded.{decoded}
use Rattle.run.proofs.run.next_stored.Given as goal

abbrev pub invariant-loop-k : goal.invariant-loop-k
invariant-loop-k l =
    (length l.new ≡ 128) × (drop l.k l.new ≡ drop l.k l.initial.new) ×
    ((s : List ℕ) → next_stored (decoded s l.netlist) l.values (take l.netlist.register_count l.old)
    ≡ take l.k l.new ++ next_from l.values (take l.netlist.register_count l.old) l.k (drop l.k (decoded s l.netlist).registers))
