-- The call read, and a pair of which one record is refused: read accepts exactly where a design is parsed and valid, and the pair's calls answer what read answers, with the side. Assumes nothing.
use Rattle.std.specs.Prelude.{ℕ, ◌≡◌, ◌≢◌, ◌⊎◌, ◌↔◌, List}
use Rattle.std.proofs.Math.Path.{refl, ap}
use Rattle.std.proofs.Common.{sym, ◌∙◌}
use Rattle.std.proofs.Math.Logic.{inl, inr}
use Rattle.std.proofs.Math.Option.{none}
use Rattle.model.specs.Answers.{Refusal, accepted}
use Rattle.model.specs.Netlist.{Design}
use Rattle.model.specs.Record.{Read, parsed, refused_record, parse}
use Rattle.model.specs.Validate.{validate, judged, validated, read_record, answer_of, read}
use Rattle.model.specs.Pair.{on_gate, with_gate, with_gold, refused_pair, read_pair, check_refusal_of, check_refusal}
use Rattle.model.specs.Replay.{refused_replay, replay_read, replay}
use Rattle.laws.specs.Terms.{OfRecord, RefusedWith}
use Rattle.laws.specs.Record.Accepted.{accepted-parsed}
use Rattle.laws.specs.Check.Call.{check-refused}
use Rattle.laws.specs.Check.Refusals.{record_within, own-not-zero}

-- ---- one record

module _ (s : List ℕ) where
  -- what read answers is that of the record
  read_of : (r : Read) → read_record s ≡ r → read s ≡ answer_of r
  unfolding read
  read_of r e = ap answer_of e

  -- where its number is 0 there is a design
  pub read-parsed : (read s).number ≡ 0 → (d : Design) × (read_record s ≡ parsed d)
  unfolding answer_of
  read-parsed h = go (read_record s) refl
    where
      go : (r : Read) → read_record s ≡ r → (d : Design) × (read_record s ≡ parsed d)
      go (parsed d) e = (d, e)
      go (refused_record r) e =
          let q : (read s).number ≡ r.number = ap (λ x. x.number) (read_of (refused_record r) e) in
          absurd (own-not-zero r (record_within s r e).own (sym q ∙ h))

  -- where it is not, the record is refused with what read answers
  pub read-refused : (read s).number ≢ 0 → read_record s ≡ refused_record (read s)
  unfolding answer_of accepted
  read-refused h = go (read_record s) refl
    where
      go : (r : Read) → read_record s ≡ r → read_record s ≡ refused_record (read s)
      go (parsed d) e = absurd (h (ap (λ x. x.number) (read_of (parsed d) e)))
      go (refused_record r) e = e ∙ ap refused_record (sym (read_of (refused_record r) e))

  -- read answers number 0 exactly where the bytes are a design that no check refuses
  pub read-zero : ((read s).number ≡ 0) ↔ ((d : Design) × (parse s ≡ parsed d) × (validate d ≡ none))
  unfolding read read_record validated judged answer_of accepted
  read-zero = (
    λ h. let x = read-parsed h in let y = accepted-parsed s x.0 x.1 in (x.0, y.0, y.1),
    λ x. rw (x.1, x.2),
  )

  -- it answers the three zeros, or a refusal from 1 to 15, or 30, on side 0
  pub read-answers : (read s ≡ accepted) ⊎ OfRecord (read s)
  unfolding answer_of
  read-answers = go (read_record s) refl
    where
      go : (r : Read) → read_record s ≡ r → (read s ≡ accepted) ⊎ OfRecord (read s)
      go (parsed d) e = inl (read_of (parsed d) e)
      go (refused_record r) e = inr (rw (read_of (refused_record r) e) (record_within s r e))

-- ---- one record of a pair

-- a pair that is refused when it is read
pair-refused : (a b : List ℕ) (r : Refusal) → read_pair a b ≡ refused_pair r → RefusedWith a b r
unfolding check_refusal check_refusal_of replay replay_read refused_replay
pair-refused a b r e =
    record {
      checks = λ o trace words scores. ap (λ x. x.answer) (check-refused a b o trace words scores r (rw e));
      replays = λ cycle claim. rw e;
    }

-- gold's record refused: what read answers of it
pub gold-refused : (a b : List ℕ) → (read a).number ≢ 0 → RefusedWith a b (read a)
unfolding read_pair with_gold
gold-refused a b h = pair-refused a b (read a) (rw (read-refused a h))

-- gold's accepted and gate's refused: what read answers of gate's, on side 1
pub gate-refused : (a b : List ℕ) → (read a).number ≡ 0 → (read b).number ≢ 0 → RefusedWith a b (record { number = (read b).number; side = 1; place = (read b).place })
unfolding read_pair with_gold with_gate on_gate
gate-refused a b h k = pair-refused a b (record { number = (read b).number; side = 1; place = (read b).place }) (rw ((read-parsed a h).1, read-refused b k))
