-- The walk of 30 over the numbers, by the tables of clocks and of what is read. Assumes nothing.
use Rattle.std.specs.Prelude.{ℕ, ◌+◌, ◌≤◌, ◌<◌, ◌≡◌, Bool, true, false, ◌&&◌, ◌||◌, List, get_or, drop}
use Rattle.std.proofs.Common.{sym, ◌∙◌, arith}
use Rattle.std.proofs.Math.Option.{none, some}
use Rattle.std.proofs.Math.Numerals.{add-one}
use Rattle.facts.specs.Bools.{both-and}
use Rattle.model.specs.Validate.{clocks, nodes_read, registers_read, clock_read, clock_read_fault}
use Rattle.calls.specs.Faults.{refusal}
use Rattle.calls.specs.FaultLaws.{refused_by, passed_by}
use Rattle.struo_ir.specs.declared.netlist.Netlist.{Netlist}
use Rattle.struo_ir.specs.Decoded.{decoded}
use Rattle.struo_ir.specs.Designs.{Padded}
use Rattle.struo_ir.specs.WalkLaws.{no-nodes, node-here}
use Rattle.clock_reads.specs.Marks.{Marked}

module _ (s : List ℕ) (netlist : Netlist) (pad : Padded netlist) (clocking read : List Bool) (c : Marked (λ t k. clocks k (decoded t netlist).registers) clocking) (r : Marked (λ t k. nodes_read k (decoded t netlist).nodes || registers_read k (decoded t netlist).registers) read) (i : ℕ) (l : i < netlist.node_count) where
  -- the two tables say what the definition asks
  test : (get_or clocking i false && get_or read i false) ≡ clock_read (decoded s netlist) i
  unfolding clock_read
  test = let h : i < 1024 = omega (arith, pad.nodes_padded.fits) in rw (c.marks s i h, r.marks s i h)

  -- the number is in both tables
  pub clock-is-read : get_or clocking i false ≡ true → get_or read i false ≡ true → some (refusal 30 0 i) ≡ clock_read_fault (decoded s netlist) i (drop i (decoded s netlist).nodes)
  unfolding clock_read_fault
  clock-is-read e f = rw (node-here s netlist pad i l) (refused_by 30 i _ _ (sym (both-and (get_or clocking i false) (get_or read i false) e f) ∙ test))

  -- the number is passed
  passed : (get_or clocking i false && get_or read i false) ≡ false → clock_read_fault (decoded s netlist) (i + 1) (drop (i + 1) (decoded s netlist).nodes) ≡ clock_read_fault (decoded s netlist) i (drop i (decoded s netlist).nodes)
  unfolding clock_read_fault
  passed e = rw (node-here s netlist pad i l, add-one i) (passed_by 30 i _ _ (sym e ∙ test))

  -- it is no clock
  pub no-clock : get_or clocking i false ≡ false → clock_read_fault (decoded s netlist) (i + 1) (drop (i + 1) (decoded s netlist).nodes) ≡ clock_read_fault (decoded s netlist) i (drop i (decoded s netlist).nodes)
  no-clock e = passed (rw e)

  -- it is a clock that is not read
  pub unread : get_or clocking i false ≡ true → get_or read i false ≡ false → clock_read_fault (decoded s netlist) (i + 1) (drop (i + 1) (decoded s netlist).nodes) ≡ clock_read_fault (decoded s netlist) i (drop i (decoded s netlist).nodes)
  unread e f = passed (rw (e, f))

-- no number is left
pub none_read : (s : List ℕ) (netlist : Netlist) (i : ℕ) → netlist.node_count ≤ i → none ≡ clock_read_fault (decoded s netlist) i (drop i (decoded s netlist).nodes)
unfolding clock_read_fault
none_read s netlist i h = rw (no-nodes s netlist i h)
