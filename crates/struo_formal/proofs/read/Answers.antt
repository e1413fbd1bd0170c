-- `struo_formal::read` meets its contract: what the reading found is what the definition answers. Assumes nothing.
use Rattle.std.proofs.Common.{sym, ap, ◌∙◌}
use Rattle.calls.specs.Answers.{refusal_of}
use Rattle.model.specs.Answers.{accepted}
use Rattle.model.specs.Validate.{answer_of, read}
use Rattle.struo_ir.specs.Reading.{outcome_of}
use Rattle.struo_formal.proofs.read.Goals as goal

pub returns-in-Ok : goal.returns-in-Ok
unfolding refusal_of read answer_of accepted outcome_of
returns-in-Ok c = sym (ap answer_of c.in-Ok.ensures.reads)

pub returns-in-Err : goal.returns-in-Err
unfolding read answer_of outcome_of
returns-in-Err c = c.from.ensures ∙ sym (ap answer_of c.in-Err.ensures.reads)
