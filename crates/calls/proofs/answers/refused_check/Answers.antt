-- `refused_check` has the three numbers of a refusal, and no others. Assumes nothing.
use Rattle.std.proofs.Common.{refl}
use Rattle.model.specs.Answers.{refused_answer}
use Rattle.model.specs.Check.{check_answer}
use Rattle.calls.specs.Answers.{check_of}
use Rattle.calls.specs.Faults.{refusal}
use Rattle.calls.proofs.answers.refused_check.Goals as goal

pub returns : goal.returns
unfolding check_of check_answer refused_answer refusal
returns c = refl
