-- `struo_ir::reader::read_design` meets its contract. Assumes nothing.
use Rattle.std.proofs.Common.{sym, ◌∙◌, arith}
use Rattle.calls.specs.Faults.{refusal}
use Rattle.struo_ir.specs.Reading.{outcome_of, PaddedWhere, refused_at}
use Rattle.struo_ir.specs.ReadingLaws.{fitting, unsized, unversioned, versioned}
use Rattle.struo_ir.proofs.reader.read_design.Goals as goal

pub returns-then-not-length_fits-clause-reads : goal.returns-then-not-length_fits-clause-reads
unfolding outcome_of refused_at refusal
returns-then-not-length_fits-clause-reads c = rw c.at.ensures (unsized _ (sym c.if-not-length_fits.ensures))

pub returns-then-not-length_fits-clause-padded : goal.returns-then-not-length_fits-clause-padded
unfolding PaddedWhere
returns-then-not-length_fits-clause-padded c = tt

pub bounds-bytes-0 : goal.bounds-bytes-0
bounds-bytes-0 c = omega (arith, (fitting _ (sym c.if-not-length_fits.ensures)).0)

pub returns-then-bytes-ne1-clause-reads : goal.returns-then-bytes-ne1-clause-reads
unfolding outcome_of refused_at refusal
returns-then-bytes-ne1-clause-reads c = rw c.at-then-bytes-ne1.ensures (unversioned _ (sym c.if-not-length_fits.ensures) c.if-bytes-ne1.true)

pub returns-then-bytes-ne1-clause-padded : goal.returns-then-bytes-ne1-clause-padded
unfolding PaddedWhere
returns-then-bytes-ne1-clause-padded c = tt

pub read_fields-requires : goal.read_fields-requires
read_fields-requires c = (fitting _ (sym c.if-not-length_fits.ensures)).1

pub returns-clause-reads : goal.returns-clause-reads
returns-clause-reads c = c.read_fields.ensures.reads ∙ versioned _ (sym c.if-not-length_fits.ensures) c.if-bytes-ne1.false
