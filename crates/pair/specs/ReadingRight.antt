-- What a reading says of its record: its refusal, or its design, whose netlist passed the checks. Assumes nothing.
use Rattle.std.specs.Prelude.{ℕ, ◌≡◌, List}
use Rattle.std.proofs.Common.{arith}
use Rattle.model.specs.Names.{Place}
use Rattle.model.specs.Netlist.{input_name, output_name, ports_from, inputs, outputs, input_count, output_count}
use Rattle.model.specs.Record.{parsed}
use Rattle.model.specs.Validate.{read_record}
use Rattle.laws.specs.Names.Sorting.{sort-length}
use Rattle.laws.specs.Record.Accepted.{accepted-parsed}
use Rattle.laws.specs.Record.Limits.{Limits, parse_limits}
use Rattle.struo_ir.specs.Decoded.{decoded}
use Rattle.struo_ir.specs.Designs.{Padded, Within, Valid}
use Rattle.struo_ir.specs.declared.netlist.Netlist.{Netlist}

-- an accepted record's netlist is within the limits
read-within : (s : List ℕ) (n : Netlist) → Padded n → read_record s ≡ parsed (decoded s n) → Within s n
unfolding input_count output_count inputs outputs
read-within s n p e =
    let l : Limits (decoded s n) = parse_limits s (decoded s n) (accepted-parsed s (decoded s n) e).0 in
    record {
      sized = record { nodes = p.nodes_padded.fits; registers = p.registers_padded.fits };
      inputs = omega (arith, l.inputs, sort-length (λ (p : Place). p.name) (ports_from input_name 0 (decoded s n).nodes));
      outputs = omega (arith, l.outputs, sort-length (λ (p : Place). p.name) (ports_from output_name 0 (decoded s n).nodes));
    }

-- an accepted record's netlist passed the checks
pub read-valid : (s : List ℕ) (n : Netlist) → Padded n → read_record s ≡ parsed (decoded s n) → Valid s n
read-valid s n p e = record { padded = p; within = read-within s n p e; valid = (accepted-parsed s (decoded s n) e).1 }
