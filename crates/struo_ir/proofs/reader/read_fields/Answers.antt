-- `struo_ir::reader::read_fields` meets its contract. Assumes nothing.
use Rattle.std.proofs.Common.{◌∙◌}
use Rattle.std.proofs.lemmas.Result.{err_from_is_err_and}
use Rattle.fields.specs.Fields.{step_of}
use Rattle.struo_ir.specs.Reading.{outcome_of, PaddedWhere}
use Rattle.struo_ir.specs.ReadingLaws.{nodes-refused-at, nodes_then, design-refused, design-named}
use Rattle.struo_ir.proofs.reader.read_fields.Goals as goal

pub read_rest-requires : goal.read_rest-requires
read_rest-requires c = (c.requires, c.read_counted_nodes.ensures.whole _ _ c.in_ok-nodes.was)

pub returns-in_err-next-clause-reads : goal.returns-in_err-next-clause-reads
unfolding outcome_of step_of
returns-in_err-next-clause-reads c =
    let p = err_from_is_err_and c.from_residual.result c.from_residual.ensures.1 in
    rw (p.1, p.2) (design-refused c.args.bytes.now _ c.in_err-next.ensures)

pub returns-in_err-next-clause-padded : goal.returns-in_err-next-clause-padded
unfolding PaddedWhere
returns-in_err-next-clause-padded c = let p = err_from_is_err_and c.from_residual.result c.from_residual.ensures.1 in rw p.1 tt

pub returns-in_err-nodes-clause-reads : goal.returns-in_err-nodes-clause-reads
unfolding outcome_of step_of
returns-in_err-nodes-clause-reads c =
    let p = err_from_is_err_and c.from_residual-in_err-nodes.result c.from_residual-in_err-nodes.ensures.1 in
    rw (p.1, p.2)
    (nodes-refused-at c.args.bytes.now _ _ c.read_counted_nodes.ensures _ c.in_err-nodes.was ∙ design-named c.args.bytes.now _ _ c.in_ok-next.ensures)

pub returns-in_err-nodes-clause-padded : goal.returns-in_err-nodes-clause-padded
unfolding PaddedWhere
returns-in_err-nodes-clause-padded c =
    let p = err_from_is_err_and c.from_residual-in_err-nodes.result c.from_residual-in_err-nodes.ensures.1 in
    rw p.1 tt

pub returns-clause-reads : goal.returns-clause-reads
unfolding step_of
returns-clause-reads c =
    c.read_rest.ensures.reads
    ∙ nodes_then c.args.bytes.now _ _ c.read_counted_nodes.ensures _ _ c.in_ok-nodes.was
    ∙ design-named c.args.bytes.now _ _ c.in_ok-next.ensures
