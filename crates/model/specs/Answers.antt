-- What the calls answer, in the specification's numbers. Definitions only.
use Rattle.std.specs.Prelude.{ℕ, Bool, true, false}
use Rattle.std.proofs.Math.Option.{Option, none, some}

-- the three numbers that every call answers: 0 or the refusal's number, the side (0 gold, 1 gate) and the place
pub record Refusal : Type 0 where
  pub number : ℕ
  pub side : ℕ
  pub place : ℕ

-- the three numbers of a call that is accepted
unfoldable pub accepted : Refusal
accepted = record { number = 0; side = 0; place = 0 }

-- the status of an accepted check
pub data Status : Type 0 where
  Equivalent NotEquivalent Inconclusive GaveUp : Status

-- the number of each status
unfoldable pub status_number : Status → ℕ
status_number Equivalent = 0
status_number NotEquivalent = 1
status_number Inconclusive = 2
status_number GaveUp = 3

-- what a replay answers: the three numbers, and yes or no
pub record ReplayAnswer : Type 0 where
  pub refusal : Refusal
  pub yes : Bool

-- a query that a check asked: its depth, its number, and its total of learned literals
pub record Asked : Type 0 where
  pub depth : ℕ
  pub query : ℕ
  pub learned : ℕ

-- what a check answers: a refusal has number, side and place, an accepted check number 0 and the others; unused numbers are 0
pub record CheckAnswer : Type 0 where
  pub number : ℕ
  pub side : ℕ
  pub place : ℕ
  pub status : ℕ
  pub depth : ℕ
  pub mismatch : ℕ
  pub query : ℕ
  pub learned : ℕ
  pub learned_depth : ℕ
  pub learned_query : ℕ
  pub equal : Bool
  pub through : ℕ

-- the answer of a refused check: all numbers but the refusal's are 0
unfoldable pub refused_answer : Refusal → CheckAnswer
refused_answer r =
    record {
      number = r.number;
      side = r.side;
      place = r.place;
      status = 0;
      depth = 0;
      mismatch = 0;
      query = 0;
      learned = 0;
      learned_depth = 0;
      learned_query = 0;
      equal = false;
      through = 0;
    }

-- whether outputs are proved equal through a cycle
unfoldable pub is_proved : Option ℕ → Bool
is_proved none = false
is_proved (some c) = true

-- that cycle, 0 where there is none
unfoldable pub proved_cycle : Option ℕ → ℕ
proved_cycle none = 0
proved_cycle (some c) = c

-- the answer of an accepted check, of whose queries `most` learned most, and which proved outputs equal through a cycle, or through none
unfoldable pub accepted_answer : ℕ → ℕ → ℕ → ℕ → Asked → Option ℕ → CheckAnswer
accepted_answer status depth mismatch query most proved =
    record {
      number = 0;
      side = 0;
      place = 0;
      status = status;
      depth = depth;
      mismatch = mismatch;
      query = query;
      learned = most.learned;
      learned_depth = most.depth;
      learned_query = most.query;
      equal = is_proved proved;
      through = proved_cycle proved;
    }

-- naming this opens them all
unfoldable pub all : Unit {0}
unfolding accepted status_number refused_answer is_proved proved_cycle accepted_answer
all = tt
