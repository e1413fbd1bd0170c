-- What the calls answer, in the specification's numbers. Definitions only.
use Rattle.std.specs.Prelude.{List, ℕ, Float}
use Rattle.std.specs.Prelude as Code
use Rattle.std.proofs.Math.Option.{Option, none, some}
use Rattle.model.specs.Answers as Answers
use Rattle.model.specs.Check.{CheckResult}
use Rattle.calls.specs.declared.answers.ReadAnswer.{ReadAnswer}
use Rattle.calls.specs.declared.answers.ReplayAnswer.{ReplayAnswer}
use Rattle.calls.specs.declared.answers.Asked.{Asked}
use Rattle.calls.specs.declared.answers.CheckAnswer.{CheckAnswer}

-- the three numbers of a read
unfoldable pub refusal_of : ReadAnswer → Answers.Refusal
refusal_of r = record { number = r.number; side = r.side; place = r.place }

-- the three numbers of a replay, and yes or no
unfoldable pub replay_of : ReplayAnswer → Answers.ReplayAnswer
replay_of r = record { refusal = record { number = r.number; side = r.side; place = r.place }; yes = r.yes }

-- a query asked
unfoldable pub asked_of : Asked → Answers.Asked
asked_of a = record { depth = a.depth; query = a.query; learned = a.learned }

-- through which cycle outputs are proved equal, or none
unfoldable pub proved_of : Code.Option ℕ → Option ℕ
proved_of Code.None = none
proved_of (Code.Some c) = some c

-- the twelve numbers of a check
unfoldable pub check_of : CheckAnswer → Answers.CheckAnswer
check_of r =
    record {
      number = r.number;
      side = r.side;
      place = r.place;
      status = r.status;
      depth = r.depth;
      mismatch = r.mismatch;
      query = r.query;
      learned = r.learned;
      learned_depth = r.learned_depth;
      learned_query = r.learned_query;
      equal = r.equal;
      through = r.through;
    }

-- the numbers of a check, and trace, words and scores after the call
unfoldable pub checked_of : CheckAnswer → List ℕ → List ℕ → List Float → CheckResult
checked_of r trace words scores = record { answer = check_of r; trace = trace; words = words; scores = scores }
