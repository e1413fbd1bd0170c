-- What the checks of a pair say of decoded netlists and their orders. Definitions only.
use Rattle.std.specs.Prelude.{ℕ, Bool, false, cond, List, eqb, ltb}
use Rattle.std.proofs.Math.Option.{Option}
use Rattle.model.specs.Answers.{Refusal}
use Rattle.model.specs.Netlist.{Design, input_name}
use Rattle.model.specs.Record.{edge_of}
use Rattle.model.specs.Validate.{◌otherwise◌, refuse_if}
use Rattle.model.specs.Pair.{Domain, name_or, many_domains, domain, domains_differ}
use Rattle.struo_ir.specs.Decoded.{decoded_node}
use Rattle.struo_ir.specs.declared.netlist.Node.{Node}
use Rattle.struo_ir.specs.declared.netlist.RegisterCell.{RegisterCell}

-- the clock domain of a register by its clock's node and its edge code
unfoldable pub domain_by : List ℕ → Node → ℕ → Domain
domain_by s n edge = record { clock = name_or (input_name (decoded_node s n)); edge = edge_of edge }

-- a register of the number, among so many, has no reset, by its fields
unfoldable pub lacks_reset : ℕ → ℕ → RegisterCell → Bool
lacks_reset number count r = cond (ltb number count) (eqb r.reset 0) false

-- 20 and 21
unfoldable pub domains_fault : Design → Design → Option Refusal
domains_fault gold gate =
    refuse_if 20 0 0 (many_domains gold.nodes gold.registers)
    otherwise refuse_if 20 1 0 (many_domains gate.nodes gate.registers)
    otherwise refuse_if 21 0 0 (domains_differ (domain gold.nodes gold.registers) (domain gate.nodes gate.registers))
