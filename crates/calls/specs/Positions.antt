-- The lent position, and what begin and step leave, in the specification's terms. Definitions only.
use Rattle.std.specs.Prelude.{List, ℕ}
use Rattle.model.specs.Stepping as Stepping
use Rattle.calls.specs.Answers.{refusal_of, replay_of}
use Rattle.calls.specs.declared.answers.ReadAnswer.{ReadAnswer}
use Rattle.calls.specs.declared.answers.ReplayAnswer.{ReplayAnswer}
use Rattle.calls.specs.declared.position.ReplayPosition.{ReplayPosition}

-- the next cycle, and whether the outputs agreed before it
unfoldable pub position_of : ReplayPosition → Stepping.LentPosition
position_of p = record { cycle = p.cycle; agreed = p.agreed }

-- the numbers of a begin, and the position and bits after the call
unfoldable pub begun_of : ReadAnswer → ReplayPosition → List ℕ → Stepping.BeginResult
begun_of r p bits = record { answer = refusal_of r; position = position_of p; bits = bits }

-- the numbers of a step with its yes or no, and the position and bits after the call
unfoldable pub stepped_of : ReplayAnswer → ReplayPosition → List ℕ → Stepping.StepResult
stepped_of r p bits = record { answer = replay_of r; position = position_of p; bits = bits }
