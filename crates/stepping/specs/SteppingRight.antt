-- A begin and a step on rows by value are the definition's, from the bytes of both records on. Assumes nothing.
use Rattle.std.specs.Prelude.{ℕ, ◌≡◌, Bool, true, List, take}
use Rattle.std.proofs.Common.{sym, ap₂, ◌∙◌}
use Rattle.std.proofs.Math.Option.{Option, none, some}
use Rattle.model.specs.Answers.{Refusal, accepted}
use Rattle.model.specs.Netlist.{Design}
use Rattle.model.specs.Run.{initial_bits}
use Rattle.model.specs.Pair.{both, refused_pair, read_pair}
use Rattle.model.specs.Replay as Replay
use Rattle.model.specs.Replay.{initial_position, refused_replay}
use Rattle.model.specs.Stepping.{LentPosition, gate_bits, stored_bits, with_stored, position_from, lent_position, lent_bits, begin_fault, step_fault, refused_begin, begin_pair, refused_step, stepped_to, step_pair}
use Rattle.model.specs.Stepping as Stepping
use Rattle.calls.specs.Answers.{refusal_of, replay_of}
use Rattle.calls.specs.Positions.{position_of, begun_of, stepped_of}
use Rattle.calls.specs.declared.position.ReplayPosition.{ReplayPosition}
use Rattle.calls.specs.declared.answers.ReadAnswer.{ReadAnswer}
use Rattle.calls.specs.declared.answers.ReplayAnswer.{ReplayAnswer}
use Rattle.struo_ir.specs.Decoded.{decoded}
use Rattle.struo_ir.specs.Designs.{Padded, Ordered}
use Rattle.struo_ir.specs.declared.netlist.Netlist.{Netlist}
use Rattle.struo_ir.specs.declared.design.Design as Travelling
use Rattle.pair.specs.CountLaws.{count-registers}
use Rattle.run.specs.RunTables.{padded}
use Rattle.steps.specs.StepSides.{position, stepped, Paired, StepTaken}
use Rattle.steps.specs.declared.step.Side.{Side}
use Rattle.steps.specs.declared.step.Position.{Position}
use Rattle.steps.specs.declared.step.Stepped.{Stepped}
use Rattle.replay.specs.ReplayRight.{SideOf, paired, initial_taken}

-- ---- begin

-- the rows of initial bits written are the initial position's bits
pub begun-right : (s t : List ℕ) (n m : Netlist) (u v : List Bool) (bits after : List ℕ) → Padded n → Padded m
    → u ≡ padded 128 (initial_bits (decoded s n)) → v ≡ padded 128 (initial_bits (decoded t m))
    → after ≡ with_stored gate_bits (take m.register_count v) (with_stored 0 (take n.register_count u) bits)
    → begun_of (record { number = 0; side = 0; place = 0 }) (record { cycle = 0; agreed = true }) after ≡ Stepping.begun (decoded s n) (decoded t m) bits
unfolding begun_of refusal_of position_of Stepping.begun lent_position lent_bits initial_position accepted
begun-right s t n m u v bits after p q f g e = rw (e, initial_taken s n u p f, initial_taken t m v q g)

-- what a refused begin leaves
pub refused-begun : (a : ReadAnswer) (r : Refusal) (p : ReplayPosition) (bits : List ℕ) → refusal_of a ≡ r → begun_of a p bits ≡ refused_begin r (position_of p) bits
unfolding begun_of refused_begin
refused-begun a r p bits e = rw e

module _ (gold gate : Design) (p : LentPosition) (bits : List ℕ) (f : Option Refusal) where
  -- a refused begin
  pub begin-refused : (r : Refusal) → f ≡ some r → refused_begin r p bits ≡ begin_pair gold gate p bits f
  unfolding begin_pair
  begin-refused r e = rw e

  -- an accepted one
  pub begin-accepted : f ≡ none → Stepping.begun gold gate bits ≡ begin_pair gold gate p bits f
  unfolding begin_pair
  begin-accepted e = rw e

module _ (s t : List ℕ) (p : LentPosition) (bits : List ℕ) where
  -- a record is refused
  pub begin_unread : (r : Refusal) → read_pair s t ≡ refused_pair r → refused_begin r p bits ≡ Stepping.begin s t p bits
  unfolding Stepping.begin Stepping.begin_read
  begin_unread r e = rw e

  -- both are accepted
  pub begin-read : (gold gate : Design) → read_pair s t ≡ both gold gate → begin_pair gold gate p bits (begin_fault gold gate bits) ≡ Stepping.begin s t p bits
  unfolding Stepping.begin Stepping.begin_read
  begin-read gold gate e = rw e

-- ---- step

-- the rows read are the lent position's stored bits
pub position-right : (s t : List ℕ) (n m : Netlist) (u v : List Bool) (p : ReplayPosition) (bits : List ℕ) → Padded n → Padded m
    → take n.register_count u ≡ stored_bits 0 n.register_count bits → take m.register_count v ≡ stored_bits gate_bits m.register_count bits
    → position n.register_count m.register_count (record { cycle = p.cycle; agreed = p.agreed; gold = record { old = u; new = u }; gate = record { old = v; new = v } })
    ≡ position_from (decoded s n) (decoded t m) (position_of p) bits
unfolding position position_from position_of
position-right s t n m u v p bits f g e h = rw (e, h, count-registers s n f, count-registers t m g)

-- the step of the two sides is the step of the designs
pub step_right : (s t : List ℕ) (gold gate : Travelling.Design) (left right : Side) → Ordered s gold → Ordered t gate → SideOf s s gold.inputs gold left → SideOf s t gold.inputs gate right
    → (cycle : ℕ) (claim : List ℕ) (p : Position) (r : Stepped) → (Paired s t gold.inputs.count left right → StepTaken s t left right cycle claim p r)
    → stepped gold.netlist.register_count gate.netlist.register_count r
    ≡ Replay.step (decoded s gold.netlist) (decoded t gate.netlist) cycle claim (position gold.netlist.register_count gate.netlist.register_count p)
step_right s t gold gate left right o q l r cycle claim p x h =
    let e = (h (paired s t gold gate left right o q l r)).equal in
    ap₂ (λ (n m : Netlist). stepped n.register_count m.register_count x) (sym l.0) (sym r.0)
    ∙ e
    ∙ ap₂ (λ (n m : Netlist). Replay.step (decoded s n) (decoded t m) cycle claim (position n.register_count m.register_count p)) l.0 r.0

-- the rows after a step written are the bits of the position after it
pub left-right : (n m : ℕ) (x : Stepped) (bits after : List ℕ) → after ≡ with_stored gate_bits (take m x.position.gate.old) (with_stored 0 (take n x.position.gold.old) bits)
    → stepped_of (record { number = 0; side = 0; place = 0; yes = x.yes }) (record { cycle = x.position.cycle; agreed = x.position.agreed }) after ≡ stepped_to (stepped n m x) bits
unfolding stepped_of replay_of position_of stepped_to stepped position lent_position lent_bits accepted
left-right n m x bits after e = rw e

-- what a refused step leaves
pub refused-left : (a : ReplayAnswer) (r : Refusal) (p : ReplayPosition) (bits : List ℕ) → replay_of a ≡ refused_replay r → stepped_of a p bits ≡ refused_step r (position_of p) bits
unfolding stepped_of refused_step
refused-left a r p bits e = rw e

module _ (gold gate : Design) (cycle : ℕ) (claim : List ℕ) (p : LentPosition) (bits : List ℕ) (f : Option Refusal) where
  -- a refused step
  pub step-refused : (r : Refusal) → f ≡ some r → refused_step r p bits ≡ step_pair gold gate cycle claim p bits f
  unfolding step_pair
  step-refused r e = rw e

  -- an accepted one
  pub step-accepted : f ≡ none → stepped_to (Replay.step gold gate cycle claim (position_from gold gate p bits)) bits ≡ step_pair gold gate cycle claim p bits f
  unfolding step_pair
  step-accepted e = rw e

module _ (s t : List ℕ) (cycle : ℕ) (claim : List ℕ) (p : LentPosition) (bits : List ℕ) where
  -- a record is refused
  pub step_unread : (r : Refusal) → read_pair s t ≡ refused_pair r → refused_step r p bits ≡ Stepping.step s t cycle claim p bits
  unfolding Stepping.step Stepping.step_read
  step_unread r e = rw e

  -- both are accepted
  pub step-read : (gold gate : Design) → read_pair s t ≡ both gold gate → step_pair gold gate cycle claim p bits (step_fault gold gate cycle claim bits) ≡ Stepping.step s t cycle claim p bits
  unfolding Stepping.step Stepping.step_read
  step-read gold gate e = rw e
