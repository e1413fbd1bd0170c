-- A pair read: gold is refused, gate is refused, or both are accepted; and what a reading of it gives. Assumes nothing.
use Rattle.std.specs.Prelude.{ℕ, ◌≡◌, List, Result, Ok, Err}
use Rattle.std.proofs.Common.{ap, ◌∙◌}
use Rattle.model.specs.Answers as Answers
use Rattle.model.specs.Netlist as Model
use Rattle.model.specs.Record.{parsed, refused_record}
use Rattle.model.specs.Validate.{read_record}
use Rattle.model.specs.Pair.{both, refused_pair, on_gate, with_gate, with_gold, read_pair}
use Rattle.calls.specs.Causes.{numbers_of}
use Rattle.calls.specs.declared.refusal.Refusal.{Refusal}
use Rattle.struo_ir.specs.Designs.{Valid, Ordered, Sided}
use Rattle.struo_ir.specs.declared.design.Design.{Design}
use Rattle.struo_ir.specs.declared.netlist.Netlist.{Netlist}
use Rattle.pair.specs.PairReading.{said, pair_of, PairRead}
use Rattle.pair.specs.declared.accepted.Pair.{Pair}

-- ---- the definition

module _ (s t : List ℕ) where
  -- gold's record is refused
  pub gold-refused : (r : Answers.Refusal) → read_record s ≡ refused_record r → read_pair s t ≡ refused_pair r
  unfolding read_pair with_gold
  gold-refused r e = rw e

  -- gold's record is accepted, and gate's is refused
  pub gate-refused : (gold : Model.Design) (r q : Answers.Refusal) → read_record s ≡ parsed gold → read_record t ≡ refused_record r → on_gate r ≡ q
      → read_pair s t ≡ refused_pair q
  unfolding read_pair with_gold with_gate
  gate-refused gold r q e f g = rw (e, f) (ap refused_pair g)

  -- both are accepted
  pub both-accepted : (gold gate : Model.Design) → read_record s ≡ parsed gold → read_record t ≡ parsed gate → read_pair s t ≡ both gold gate
  unfolding read_pair with_gold with_gate
  both-accepted gold gate e f = rw (e, f)

-- a netlist that passed its checks, with its orders, is a side
pub side_of : (s : List ℕ) (n : Netlist) (d : Design) → d.netlist ≡ n → Valid s n → Ordered s d → Sided s d
side_of s n d e v o = record { valid = rw e v; ordered = o }

-- ---- what a reading gives

-- the bytes of a pair are those of the pair that it equals
pub bytes-same : (d p : Pair) → ◌≡◌ {A = Result Pair Refusal} (Ok d) (Ok p) → (p.gold.bytes.now ≡ d.gold.bytes.now) × (p.gate.bytes.now ≡ d.gate.bytes.now)
bytes-same d p e = (cc, cc)

module _ (s t : List ℕ) (r : Result Pair Refusal) (p : PairRead s t r) where
  -- a refused pair has its refusal
  pub pair-refused : (x : Refusal) → r ≡ Err x → read_pair s t ≡ refused_pair (numbers_of x)
  unfolding pair_of
  pair-refused x e = p.is ∙ ap pair_of e

  -- an accepted pair has its two designs
  pub pair-accepted : (d : Pair) → r ≡ Ok d → read_pair s t ≡ both (said d.gold) (said d.gate)
  unfolding pair_of
  pair-accepted d e = p.is ∙ ap pair_of e
