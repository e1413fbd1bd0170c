-- The loop over the cycles is the replay, and its checks are the replay's. Assumes nothing.
use Rattle.std.specs.Prelude.{ℕ, ◌+◌, ◌≤◌, ◌≡◌, refl, Bool, false, not, ◌||◌, List, eqb, ltb, length, take}
use Rattle.std.proofs.Common.{sym, ap₂, ◌∙◌, subst, ltb-false}
use Rattle.std.proofs.Math.Path.{ap}
use Rattle.std.proofs.Math.Option.{Option, none, some}
use Rattle.std.proofs.Math.Numerals.{add-one}
use Rattle.std.proofs.lemmas.List.{length-map}
use Rattle.model.specs.Answers.{Refusal, accepted}
use Rattle.model.specs.Names.{Place}
use Rattle.model.specs.Netlist.{Design, Register, inputs, outputs, input_count, register_count}
use Rattle.model.specs.Validate.{refuse_if}
use Rattle.model.specs.Run.{StoredBits, initial_bit, initial_bits}
use Rattle.model.specs.Pair.{both, refused_pair, read_pair, all_bits, trace_length, bad_claim, replay_fault, initial_fault, interface_fault}
use Rattle.model.specs.Replay as Replay
use Rattle.model.specs.Replay.{initial_position, position_after, steps_replay, replay_pair, refused_replay}
use Rattle.facts.specs.Bools.{or_left}
use Rattle.laws.specs.Record.Accepted.{otherwise_none, refuse_if-none}
use Rattle.laws.specs.Replay.{steps_replay_lem}
use Rattle.calls.specs.Answers.{replay_of}
use Rattle.struo_ir.specs.Decoded.{decoded}
use Rattle.struo_ir.specs.Designs.{Sized, Padded, Ordered}
use Rattle.struo_ir.specs.Orders.{Formed, places}
use Rattle.struo_ir.specs.declared.netlist.Netlist.{Netlist}
use Rattle.struo_ir.specs.declared.design.Order.{Order}
use Rattle.struo_ir.specs.declared.design.Design as Travelling
use Rattle.name_order.specs.PortLaws.{count-places}
use Rattle.pair.specs.CountLaws.{count-registers, count-inputs, count-outputs}
use Rattle.run.specs.RunTables.{padded}
use Rattle.steps.specs.StepLaws.{padded-taken}
use Rattle.steps.specs.StepSides.{SizedSide, Prepared, position, stepped, Paired, StepTaken}
use Rattle.steps.specs.declared.step.Side.{Side}
use Rattle.steps.specs.declared.step.Position.{Position}
use Rattle.steps.specs.declared.step.Stepped.{Stepped}
use Rattle.replay.specs.ClaimChecks.{claim_bad, claim_fault}

module _ (s t : List ℕ) (gold gate : Side) (cycle : ℕ) (claim : List ℕ) (start : Replay.Position) where
  -- the position after k steps
  abbrev after : ℕ → Replay.Position
  after k = position_after (decoded s gold.netlist) (decoded t gate.netlist) cycle claim k start

  -- one more step
  pub position-more : (k : ℕ) (p : Position) (r : Stepped) → position gold.netlist.register_count gate.netlist.register_count p ≡ after k → StepTaken s t gold gate cycle claim p r
      → position gold.netlist.register_count gate.netlist.register_count r.position ≡ after (k + 1)
  unfolding position_after stepped
  position-more k p r e w =
      rw add-one (ap (λ (x : Replay.Stepped). x.position) w.equal ∙ ap (λ (x : Replay.Position). (Replay.step (decoded s gold.netlist) (decoded t gate.netlist) cycle claim x).position) e)

  -- the answer of the step after k steps
  pub answer-after : (k : ℕ) (p : Position) (r : Stepped) → position gold.netlist.register_count gate.netlist.register_count p ≡ after k → StepTaken s t gold gate cycle claim p r
      → r.yes ≡ (Replay.step (decoded s gold.netlist) (decoded t gate.netlist) cycle claim (after k)).yes
  unfolding stepped
  answer-after k p r e w =
      ap (λ (x : Replay.Stepped). x.yes) w.equal ∙ ap (λ (x : Replay.Position). (Replay.step (decoded s gold.netlist) (decoded t gate.netlist) cycle claim x).yes) e

-- the answer of the step at the claimed cycle is the replay's
pub replay_steps : (d e : Design) (x y : StoredBits) (cycle : ℕ) (claim : List ℕ) → (Replay.step d e cycle claim (position_after d e cycle claim cycle (initial_position x y))).yes ≡ Replay.replays d e x y cycle claim
unfolding steps_replay
replay_steps d e x y cycle claim = steps_replay_lem d e x y cycle claim

-- ---- the checks

-- the counts of the orders are those of the design
pub claim_of : (s : List ℕ) (d : Travelling.Design) (cycle : ℕ) (claim : List ℕ) → Ordered s d
    → claim_fault d.inputs.count d.outputs.count cycle claim ≡ refuse_if 25 0 0 (bad_claim (decoded s d.netlist) cycle claim)
unfolding claim_fault claim_bad bad_claim trace_length
claim_of s d cycle claim o = rw (count-inputs s d o, count-outputs s d o)

-- a claim that is not refused is within 64 cycles
pub accepted-cycle : (gold gate : Design) (cycle : ℕ) (claim : List ℕ) → replay_fault gold gate cycle claim ≡ none → cycle ≤ 64
unfolding replay_fault bad_claim
accepted-cycle gold gate cycle claim e =
    let a = otherwise_none (interface_fault gold gate) _ e in
    let b = otherwise_none (initial_fault gold gate) _ a.1 in
    let c : (ltb 64 cycle || not (eqb (length claim) (trace_length gold cycle)) || not (all_bits claim)) ≡ false = refuse_if-none 25 0 0 _ b.1 in
    ltb-false 64 cycle (or_left (ltb 64 cycle) _ (or_left (ltb 64 cycle || not (eqb (length claim) (trace_length gold cycle))) _ c))

-- ---- from the stored bits in two rows

-- a side is within its limits where its netlist and its outputs are
pub sized_of : (side : Side) (n : Netlist) (o : Order) → side.netlist ≡ n → side.outputs ≡ o → Sized n → Formed o → SizedSide side
sized_of side n o e f h g = record { sized = rw e h; formed = rw f g }

-- what side_of gives of a design
abbrev pub SideOf : List ℕ → List ℕ → Order → Travelling.Design → Side → Type 0
SideOf s t ins d side = (side.netlist ≡ d.netlist) × (side.outputs ≡ d.outputs) × Prepared t (places s ins) side

module _ (s t : List ℕ) (gold gate : Travelling.Design) (left right : Side) (o : Ordered s gold) (q : Ordered t gate)
    (l : SideOf s s gold.inputs gold left) (r : SideOf s t gold.inputs gate right) where
  -- the two sides belong together
  pub paired : Paired s t gold.inputs.count left right
  paired =
      let e : places s gold.inputs ≡ inputs (decoded s left.netlist) = o.inputs_are ∙ ap (λ (n : Netlist). inputs (decoded s n)) (sym l.0) in
      record {
        gold_prepared = subst (λ (ins : List Place). Prepared s ins left) e l.2;
        gate_prepared = subst (λ (ins : List Place). Prepared t ins right) e r.2;
        counted = count-places s gold.inputs o.formed_inputs ∙ ap length e ∙ (unfold input_count in refl);
        gold_outputs = ap (places s) l.1 ∙ o.outputs_are ∙ ap (λ (n : Netlist). outputs (decoded s n)) (sym l.0);
        gate_outputs = ap (places t) r.1 ∙ q.outputs_are ∙ ap (λ (n : Netlist). outputs (decoded t n)) (sym r.0);
      }

  -- what the sides replay from two rows is the replay of the designs
  pub from-rows : (u v : List Bool) (cycle : ℕ) (claim : List ℕ) (answer : Bool)
      → (Paired s t gold.inputs.count left right → answer ≡ Replay.replays (decoded s left.netlist) (decoded t right.netlist) (take left.netlist.register_count u) (take right.netlist.register_count v) cycle claim)
      → answer ≡ Replay.replays (decoded s gold.netlist) (decoded t gate.netlist) (take gold.netlist.register_count u) (take gate.netlist.register_count v) cycle claim
  from-rows u v cycle claim answer h =
      h paired ∙ ap₂ (λ (n m : Netlist). Replay.replays (decoded s n) (decoded t m) (take n.register_count u) (take m.register_count v) cycle claim) l.0 r.0

-- ---- from the initial bits

-- a row of initial bits
pub initial_taken : (s : List ℕ) (n : Netlist) (row : List Bool) → Padded n → row ≡ padded 128 (initial_bits (decoded s n)) → take n.register_count row ≡ initial_bits (decoded s n)
unfolding initial_bits register_count
initial_taken s n row p e =
    padded-taken 128 n.register_count row (initial_bits (decoded s n)) e (sym (length-map (decoded s n).registers (λ (r : Register). initial_bit r.reset) ∙ count-registers s n p))

-- what is replayed from two rows of initial bits is the replay from the initial bits
pub from-reset : (s t : List ℕ) (n m : Netlist) (u v : List Bool) (cycle : ℕ) (claim : List ℕ) → Padded n → Padded m
    → u ≡ padded 128 (initial_bits (decoded s n)) → v ≡ padded 128 (initial_bits (decoded t m))
    → Replay.replays (decoded s n) (decoded t m) (take n.register_count u) (take m.register_count v) cycle claim
    ≡ Replay.replays (decoded s n) (decoded t m) (initial_bits (decoded s n)) (initial_bits (decoded t m)) cycle claim
from-reset s t n m u v cycle claim p q f g =
    ap₂ (λ (x y : List Bool). Replay.replays (decoded s n) (decoded t m) x y cycle claim) (initial_taken s n u p f) (initial_taken t m v q g)

-- ---- the answer

module _ (gold gate : Design) (cycle : ℕ) (claim : List ℕ) (f : Option Refusal) where
  -- a refused replay
  pub pair-refused : (r : Refusal) → f ≡ some r → refused_replay r ≡ replay_pair gold gate cycle claim f
  unfolding replay_pair
  pair-refused r e = rw e

  -- an accepted one
  pub pair_replayed : (answer : Bool) → f ≡ none → answer ≡ Replay.replays gold gate (initial_bits gold) (initial_bits gate) cycle claim
      → replay_of (record { number = 0; side = 0; place = 0; yes = answer }) ≡ replay_pair gold gate cycle claim f
  unfolding replay_of replay_pair accepted
  pair_replayed answer e g = rw (e, g)

-- ---- from the bytes of both records

module _ (s t : List ℕ) (cycle : ℕ) (claim : List ℕ) where
  -- a record is refused
  pub read-refused : (r : Refusal) → read_pair s t ≡ refused_pair r → refused_replay r ≡ Replay.replay s t cycle claim
  unfolding Replay.replay Replay.replay_read
  read-refused r e = rw e

  -- both are accepted
  pub read-accepted : (gold gate : Design) → read_pair s t ≡ both gold gate → replay_pair gold gate cycle claim (replay_fault gold gate cycle claim) ≡ Replay.replay s t cycle claim
  unfolding Replay.replay Replay.replay_read
  read-accepted gold gate e = rw e
