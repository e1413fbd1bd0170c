-- `answered` gives each verdict its status, the query that learned most, and what is proved. Assumes nothing.
use Rattle.std.proofs.Common.{sym, ap, ◌∙◌}
use Rattle.calls.specs.Answers.{asked_of, proved_of}
use Rattle.model.specs.Answers.{accepted_answer, status_number}
use Rattle.queries.specs.Problem.{answer_of_verdict}
use Rattle.queries.specs.declared.problem.Verdict.{Verdict}
use Rattle.checker.specs.Results.{proved_by}
use Rattle.checker.proofs.answer.answered.Goals as goal

pub returns-in-Equivalent : goal.returns-in-Equivalent
unfolding answer_of_verdict status_number proved_of proved_by
returns-in-Equivalent c = c.accepted_check.ensures ∙ sym (ap (λ (v : Verdict). answer_of_verdict v (asked_of c.args.outcome.most) (proved_by c.args.earliest v)) c.in-Equivalent.is)

pub returns-in-NotEquivalent : goal.returns-in-NotEquivalent
unfolding answer_of_verdict status_number proved_of proved_by
returns-in-NotEquivalent c = c.accepted_check-in-NotEquivalent.ensures ∙ sym (ap (λ (v : Verdict). answer_of_verdict v (asked_of c.args.outcome.most) (proved_by c.args.earliest v)) c.in-NotEquivalent.is)

pub returns-in-Inconclusive : goal.returns-in-Inconclusive
unfolding answer_of_verdict status_number proved_of proved_by
returns-in-Inconclusive c = c.accepted_check-in-Inconclusive.ensures ∙ sym (ap (λ (v : Verdict). answer_of_verdict v (asked_of c.args.outcome.most) (proved_by c.args.earliest v)) c.in-Inconclusive.is)

pub returns-in-GaveUp : goal.returns-in-GaveUp
unfolding answer_of_verdict status_number proved_by
returns-in-GaveUp c =
    let a = c.args in
    let m = asked_of a.outcome.most in
    c.accepted_check-in-GaveUp.ensures
    ∙ ap (accepted_answer 3 _ 0 _ m) c.proved_by_place-proved.ensures
    ∙ sym (ap (λ (u : Verdict). answer_of_verdict u m (proved_by a.earliest u)) c.in-GaveUp.is)
