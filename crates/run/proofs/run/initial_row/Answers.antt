-- `initial_row` takes the initial bit of each register. Assumes nothing.
use Rattle.std.proofs.Common.{sym, ap, ◌∙◌, rules}
use Rattle.model.specs.Netlist.{Register}
use Rattle.std.proofs.lemmas.Simd.{map-map}
use Rattle.model.specs.Run.{initial_bit, initial_bits}
use Rattle.struo_ir.specs.Decoded.{cell_reset, decoded, decoded_register}
use Rattle.struo_ir.specs.declared.netlist.RegisterCell.{RegisterCell}
use Rattle.run.specs.RunTables.{padded}
use Rattle.run.proofs.run.initial_row.Goals as goal

pub returns : goal.returns
unfolding initial_bits decoded decoded_register cell_reset
returns c =
    λ s. c.row_of.ensures (λ (cell : RegisterCell). initial_bit (cell_reset cell)) (λ x r h. search rules)
    ∙ ap (padded 128) (sym (map-map (λ (r : Register). initial_bit r.reset) (decoded_register s) _))
