-- `struo_ir::reader::read_rest` meets its contract. Assumes nothing.
use Rattle.std.proofs.lemmas.Result.{err_from_is_err_and}
use Rattle.calls.specs.Faults.{refusal}
use Rattle.struo_ir.specs.Decoded.{decoded}
use Rattle.struo_ir.specs.Nodes.{nodes_to}
use Rattle.struo_ir.specs.Registers.{registers_to}
use Rattle.struo_ir.specs.Reading.{outcome_of, PaddedWhere, refused_at}
use Rattle.struo_ir.specs.ReadingLaws.{rest-refused, rest-left, rest-done}
use Rattle.struo_ir.proofs.reader.read_rest.Goals as goal

pub returns-in_err-registers-clause-reads : goal.returns-in_err-registers-clause-reads
unfolding outcome_of
returns-in_err-registers-clause-reads c =
    let p = err_from_is_err_and c.from_residual.result c.from_residual.ensures.1 in
    rw (p.1, p.2) (rest-refused _ c.args.bytes.now c.args.at _ c.read_counted_registers.ensures _ c.in_err-registers.was)

pub returns-in_err-registers-clause-padded : goal.returns-in_err-registers-clause-padded
unfolding PaddedWhere
returns-in_err-registers-clause-padded c = let p = err_from_is_err_and c.from_residual.result c.from_residual.ensures.1 in rw p.1 tt

pub returns-then-end-bytes-clause-reads : goal.returns-then-end-bytes-clause-reads
unfolding outcome_of refused_at refusal
returns-then-end-bytes-clause-reads c =
    rw c.at.ensures (rest-left _ c.args.bytes.now c.args.at _ c.read_counted_registers.ensures _ _ c.in_ok-registers.was c.if-end-bytes.true)

pub returns-then-end-bytes-clause-padded : goal.returns-then-end-bytes-clause-padded
unfolding PaddedWhere
returns-then-end-bytes-clause-padded c = tt

pub returns-clause-reads : goal.returns-clause-reads
unfolding outcome_of decoded nodes_to registers_to
returns-clause-reads c =
    rw (c.from.ensures, c.from-2.ensures)
    (rest-done _ c.args.bytes.now c.args.at _ c.read_counted_registers.ensures _ _ c.in_ok-registers.was c.if-end-bytes.false)

pub returns-clause-padded : goal.returns-clause-padded
unfolding PaddedWhere
returns-clause-padded c =
    rw (c.from.ensures, c.from-2.ensures)
    (record { nodes_padded = c.requires.1; registers_padded = c.read_counted_registers.ensures.whole _ _ c.in_ok-registers.was })
