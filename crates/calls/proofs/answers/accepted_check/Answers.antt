-- `accepted_check` has the numbers of an accepted check. Assumes nothing.
use Rattle.std.proofs.Common.{arith, ◌≡◌, refl, ℕ}
use Rattle.std.specs.Prelude.{Option, Some, None}
use Rattle.std.specs.Option.{is_some, unwrap_or}
use Rattle.model.specs.Answers.{accepted_answer, is_proved, proved_cycle}
use Rattle.calls.specs.Answers.{asked_of, proved_of, check_of}
use Rattle.calls.proofs.answers.accepted_check.Goals as goal

-- whether there is a cycle
equal : (p : Option ℕ) → is_some p ≡ is_proved (proved_of p)
unfolding is_proved proved_of
equal None = refl
equal (Some c) = refl

-- the cycle, 0 where there is none
through : (p : Option ℕ) → unwrap_or p 0 ≡ proved_cycle (proved_of p)
unfolding proved_cycle proved_of
through None = refl
through (Some c) = refl

pub returns : goal.returns
unfolding check_of accepted_answer asked_of
returns c = rw (c.is_some.ensures, c.unwrap_or.ensures, equal c.args.proved, through c.args.proved)

pub overflow_cast-result : goal.overflow_cast-result
overflow_cast-result c = omega (arith, c.requires)
