-- `output_row` takes the value of each output's node. Assumes nothing.
use Rattle.std.proofs.Common.{sym, ap, ◌∙◌, rules}
use Rattle.model.specs.Names.{Place}
use Rattle.std.proofs.lemmas.Simd.{map-map}
use Rattle.model.specs.Run.{bit_at}
use Rattle.struo_ir.specs.Orders.{held, place_of, places}
use Rattle.struo_ir.specs.declared.design.Entry.{Entry}
use Rattle.run.specs.RunTables.{padded}
use Rattle.run.proofs.run.output_row.Goals as goal

pub returns : goal.returns
unfolding places held place_of
returns c =
    λ s. c.row_of.ensures (λ (e : Entry). bit_at c.args.values.now e.number) (λ x r h. search rules)
    ∙ ap (padded 128) (sym (map-map (λ (p : Place). bit_at c.args.values.now p.number) (place_of s) _))
