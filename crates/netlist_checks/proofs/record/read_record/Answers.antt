-- `netlist_checks::record::read_record` meets its contract: a record that is read is judged by its checks. Assumes nothing.
use Rattle.std.proofs.lemmas.Result.{err_from_is_err_and}
use Rattle.calls.specs.Causes.{fault_of}
use Rattle.struo_ir.specs.Reading.{outcome_of, PaddedWhere}
use Rattle.netlist_checks.specs.RecordLaws.{unread, unchecked, checked}
use Rattle.netlist_checks.proofs.record.read_record.Goals as goal

pub returns-in_err-netlist-clause-reads : goal.returns-in_err-netlist-clause-reads
unfolding outcome_of
returns-in_err-netlist-clause-reads c =
    let p = err_from_is_err_and c.from_residual.result c.from_residual.ensures.1 in
    rw (p.1, p.2) (unread c.args.bytes.now _ c.in_err-netlist.ensures.reads)

pub returns-in_err-netlist-clause-padded : goal.returns-in_err-netlist-clause-padded
unfolding PaddedWhere
returns-in_err-netlist-clause-padded c = let p = err_from_is_err_and c.from_residual.result c.from_residual.ensures.1 in rw p.1 tt

pub validate-requires : goal.validate-requires
unfolding PaddedWhere
validate-requires c = c.in_ok-netlist.ensures.padded

pub returns-in_err-validate-clause-reads : goal.returns-in_err-validate-clause-reads
unfolding outcome_of fault_of
returns-in_err-validate-clause-reads c =
    let p = err_from_is_err_and c.from_residual-in_err-validate.result c.from_residual-in_err-validate.ensures.1 in
    rw (p.1, p.2) (unchecked c.args.bytes.now _ c.in_ok-netlist.ensures.reads _ c.in_err-validate.ensures)

pub returns-in_err-validate-clause-padded : goal.returns-in_err-validate-clause-padded
unfolding PaddedWhere
returns-in_err-validate-clause-padded c =
    let p = err_from_is_err_and c.from_residual-in_err-validate.result c.from_residual-in_err-validate.ensures.1 in
    rw p.1 tt

pub returns-clause-reads : goal.returns-clause-reads
unfolding outcome_of fault_of
returns-clause-reads c = checked c.args.bytes.now _ c.in_ok-netlist.ensures.reads c.in_ok-validate.ensures

pub returns-clause-padded : goal.returns-clause-padded
unfolding PaddedWhere
returns-clause-padded c = c.in_ok-netlist.ensures.padded
