-- A record read and checked. Assumes nothing.
use Rattle.std.specs.Prelude.{ℕ, ◌≡◌, List}
use Rattle.std.proofs.Math.Option.{none, some}
use Rattle.model.specs.Answers.{Refusal}
use Rattle.model.specs.Netlist.{Design}
use Rattle.model.specs.Record.{parse, parsed, refused_record}
use Rattle.model.specs.Validate.{validate, judged, validated, read_record}

-- a record that is refused in reading
pub unread : (s : List ℕ) (r : Refusal) → refused_record r ≡ parse s → read_record s ≡ refused_record r
unfolding read_record validated
unread s r h = rw (← h)

module _ (s : List ℕ) (d : Design) (h : parsed d ≡ parse s) where
  -- a record that is read, and refused by a check
  pub unchecked : (r : Refusal) → some r ≡ validate d → read_record s ≡ refused_record r
  unfolding read_record validated judged
  unchecked r e = rw (← h, ← e)

  -- a record that is read, and passes
  pub checked : none ≡ validate d → read_record s ≡ parsed d
  unfolding read_record validated judged
  checked e = rw (← h, ← e)
