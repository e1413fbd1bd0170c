-- The stepping call: from begin its steps follow the two runs and answer as replay does; what one step does from any position; which bytes count. Assumes nothing.
use Prim.Native.Nat.{ℕ, zero, suc, ◌+◌, ◌≤◌, ◌<◌}
use Rattle.std.specs.Prelude.{◌≡◌, refl, ◌↔◌, Bool, true, not, drop, get_or, ltb}
use Rattle.std.proofs.Math.Path.{sym, ap, subst}
use Rattle.std.proofs.Common.{◌∙◌, arith, length-drop, length-take-le}
use Rattle.std.proofs.Math.Bool.{false}
use mathlib.Core.List.{List, [], ◌∷◌, map}
use Rattle.std.proofs.Math.Option.{Option, none, some}
use Rattle.std.proofs.Math.ListN.{length, take}
use Rattle.std.proofs.lemmas.List.{length-map}
use borrow.Author.Tests.{le-ltb, lt-ltb, ltb-false, ne_eqb, not-false}
use Rattle.facts.specs.Bools.{or-both}
use Rattle.model.specs.Answers.{Refusal, accepted, ReplayAnswer}
use Rattle.model.specs.Netlist.{Register, Design, register_count}
use Rattle.model.specs.Validate.{refuse_if}
use Rattle.model.specs.Run.{StoredBits, InputSequence, next_from, next_stored, stored_at, outputs_at, initial_bit, initial_bits}
use Rattle.model.specs.Pair.{interface_fault, initial_fault, replay_fault, all_bits, ReadPair, both, refused_pair, read_pair}
use Rattle.model.specs.Replay.{Position, Stepped, claim_inputs, differ_at, agree_before, replay, replay_read, replay_pair, refused_replay, initial_position, advance, step_if, steps_replay}
use Rattle.model.specs.Replay as Replay
use Rattle.model.specs.Stepping.{LentPosition, BeginResult, StepResult, gate_bits, stored_bits, with_stored, position_from, lent_position, lent_bits, too_few_bits, bad_stored, bits_fault, begin_fault, step_fault, refused_begin, begun, begin_pair, begin_read, begin, refused_step, stepped_to, step_pair, step_read, step}
use Rattle.model.specs.Record.{bit}
use Rattle.model.specs.Encode.{bit_byte}
use Rattle.laws.specs.StepTerms.{begin_refusal_of, begin_refusal, step_refusal_of, step_refusal, after_begin, after_step, step_answer, after_steps, run_position, held_at, Outside, between, past, BytesKept, SameBits, moved_from}
use Rattle.laws.specs.LentBits.{bytes_bits, bytes_good, length-written, take-before, written-bytes, written_twice, written_apart, written-before, written_after, written_same}
use Rattle.laws.specs.Replay.{step-at, next-at, position_at, steps_replay_lem}
use Rattle.laws.specs.Record.Accepted.{otherwise_none, none_otherwise, refuse_if-none, pass, accepted-parsed}
use Rattle.laws.specs.Record.Limits.{parse_limits}
use Rattle.laws.specs.Induction.Pairs.{read_pair-both}
use Rattle.laws.specs.Check.Refusals.{begin-within, step-within, begin-not-zero, step-not-zero}

-- ---- as many stored bits as registers

next-length : (values stored : List Bool) (k : ℕ) (rs : List Register) → length (next_from values stored k rs) ≡ length rs
unfolding next_from
next-length values stored k [] = refl
next-length values stored k (r ∷ rs) = ap suc (next-length values stored (suc k) rs)

stored-length : (d : Design) (s : StoredBits) (ins : InputSequence) (n : ℕ) → length s ≡ register_count d → length (stored_at d s ins n) ≡ register_count d
unfolding stored_at next_stored register_count
stored-length d s ins zero e = e
stored-length d s ins (suc n) e = next-length _ _ 0 d.registers

initial_length : (d : Design) → length (initial_bits d) ≡ register_count d
unfolding initial_bits register_count
initial_length d = length-map d.registers (λ (r : Register). initial_bit r.reset)

-- ---- a position held in lent bits

-- a position of two designs: as many stored bits as they have registers
record Fits (gold gate : Design) (q : Position) : Type 0 where
  pub gold_length : length q.gold ≡ register_count gold
  pub gate_length : length q.gate ≡ register_count gate

-- two designs with room for their registers, and lent bits that are long enough
record Room (gold gate : Design) (bits : List ℕ) : Type 0 where
  pub gold_room : register_count gold ≤ 128
  pub gate_room : register_count gate ≤ 128
  pub long : 256 ≤ length bits

module _ (gold gate : Design) (q : Position) (bits : List ℕ) (f : Fits gold gate q) (r : Room gold gate bits) where
  -- where gold's bits are written
  gold_in : 0 + length q.gold ≤ length bits
  gold_in = omega (arith, f.gold_length, r.gold_room, r.long)

  gold-long : length (with_stored 0 q.gold bits) ≡ length bits
  gold-long = length-written 0 q.gold bits gold_in

  -- and gate's
  gate_in : 128 + length q.gate ≤ length (with_stored 0 q.gold bits)
  gate_in = omega (arith, f.gate_length, r.gate_room, r.long, gold-long)

  lent_length : length (lent_bits q bits) ≡ length bits
  unfolding lent_bits
  lent_length = length-written 128 q.gate (with_stored 0 q.gold bits) gate_in ∙ gold-long

  -- the bytes of each side's registers are those of its stored bits
  held-gold : take (register_count gold) (lent_bits q bits) ≡ map bit_byte q.gold
  unfolding lent_bits
  held-gold =
      take-before 128 q.gate (with_stored 0 q.gold bits) gate_in (register_count gold) r.gold_room
      ∙ ap (λ (n : ℕ). take n (with_stored 0 q.gold bits)) (sym f.gold_length) ∙ written-bytes 0 q.gold bits gold_in

  held-gate : take (register_count gate) (drop gate_bits (lent_bits q bits)) ≡ map bit_byte q.gate
  unfolding lent_bits
  held-gate =
      ap (λ (n : ℕ). take n (drop gate_bits (lent_bits q bits))) (sym f.gate_length) ∙ written-bytes 128 q.gate (with_stored 0 q.gold bits) gate_in

  -- the position is read again
  held-position : position_from gold gate (lent_position q) (lent_bits q bits) ≡ q
  unfolding position_from lent_position stored_bits
  held-position = rw (held-gold, held-gate, bytes_bits q.gold, bytes_bits q.gate)

  -- and not refused
  held-accepted : (cycle : ℕ) (claim : List ℕ) → replay_fault gold gate cycle claim ≡ none → step_fault gold gate cycle claim (lent_bits q bits) ≡ none
  unfolding step_fault bits_fault too_few_bits bad_stored
  held-accepted cycle claim e =
      none_otherwise _ _ e
      (none_otherwise _ _ (pass 24 0 0 _ (le-ltb (length (lent_bits q bits)) 256 (omega (arith, lent_length, r.long)))) (pass 25 0 0 _ (rw (held-gold, held-gate, bytes_good q.gold, bytes_good q.gate))))

  -- another position of the two designs written after it
  held_twice : (p : Position) → Fits gold gate p → lent_bits p (lent_bits q bits) ≡ lent_bits p bits
  unfolding lent_bits
  held_twice p g =
      let old : List ℕ = with_stored 0 q.gold bits in
      let i : 0 + length p.gold ≤ length bits = omega (arith, g.gold_length, r.gold_room, r.long) in
      let m : length (with_stored 0 p.gold bits) ≡ length bits = length-written 0 p.gold bits i in
      let e : with_stored 0 p.gold old ≡ with_stored 0 p.gold bits = written_twice 0 q.gold p.gold bits (f.gold_length ∙ sym g.gold_length) i in
      ap (with_stored 128 p.gate)
      (written_apart 0 128 p.gold q.gate old (omega (arith, g.gold_length, r.gold_room)) gate_in ∙ ap (with_stored 128 q.gate) e)
      ∙ written_twice 128 q.gate p.gate (with_stored 0 p.gold bits) (f.gate_length ∙ sym g.gate_length) (omega (arith, g.gate_length, r.gate_room, r.long, m))

-- ---- accepted calls

-- two records read have room for their registers
rooms : (a b : List ℕ) (gold gate : Design) (bits : List ℕ) → read_pair a b ≡ both gold gate → 256 ≤ length bits → Room gold gate bits
unfolding register_count
rooms a b gold gate bits e l =
    let x = read_pair-both a b gold gate e in
    record {
      gold_room = (parse_limits a gold (accepted-parsed a gold x.0).0).registers;
      gate_room = (parse_limits b gate (accepted-parsed b gate x.1).0).registers;
      long = l;
    }

accepted-begin : (a b : List ℕ) (gold gate : Design) (p : LentPosition) (bits : List ℕ) → read_pair a b ≡ both gold gate → begin_fault gold gate bits ≡ none → begin a b p bits ≡ begun gold gate bits
unfolding begin begin_read begin_pair
accepted-begin a b gold gate p bits e f = rw (e, f)

accepted-step : (a b : List ℕ) (gold gate : Design) (cycle : ℕ) (claim : List ℕ) (p : LentPosition) (bits : List ℕ) → read_pair a b ≡ both gold gate → step_fault gold gate cycle claim bits ≡ none
    → step a b cycle claim p bits ≡ stepped_to (Replay.step gold gate cycle claim (position_from gold gate p bits)) bits
unfolding step step_read step_pair
accepted-step a b gold gate cycle claim p bits e f = rw (e, f)

-- a claim that is not refused, and bits that are long enough, begin
begin-free : (gold gate : Design) (cycle : ℕ) (claim bits : List ℕ) → replay_fault gold gate cycle claim ≡ none → 256 ≤ length bits → begin_fault gold gate bits ≡ none
unfolding replay_fault begin_fault too_few_bits
begin-free gold gate cycle claim bits e l =
    let x = otherwise_none (interface_fault gold gate) _ e in
    let y = otherwise_none (initial_fault gold gate) _ x.1 in
    none_otherwise _ _ x.0 (none_otherwise _ _ y.0 (pass 24 0 0 _ (le-ltb (length bits) 256 l)))

-- ---- from begin on

module _ (a b : List ℕ) (cycle : ℕ) (claim : List ℕ) (gold gate : Design) (e : read_pair a b ≡ both gold gate) (f : replay_fault gold gate cycle claim ≡ none) (p : LentPosition) (bits : List ℕ) (l : 256 ≤ length bits) where
  -- the position of the runs at the start of cycle n
  abbrev run : ℕ → Position
  run n = run_position gold gate (initial_bits gold) (initial_bits gate) (claim_inputs gold claim) n

  run_fits : (n : ℕ) → Fits gold gate (run n)
  unfolding run_position
  run_fits n =
      record {
        gold_length = stored-length gold (initial_bits gold) (claim_inputs gold claim) n (initial_length gold);
        gate_length = stored-length gate (initial_bits gate) (claim_inputs gold claim) n (initial_length gate);
      }

  room : Room gold gate bits
  room = rooms a b gold gate bits e l

  -- the step on what is held at the start of cycle n
  abbrev taken : ℕ → Stepped
  taken n = Replay.step gold gate cycle claim (run n)

  step-held : (n : ℕ) → step a b cycle claim (held_at (run n) bits).position (held_at (run n) bits).bits ≡ stepped_to (taken n) (lent_bits (run n) bits)
  unfolding held_at
  step-held n =
      accepted-step a b gold gate cycle claim (lent_position (run n)) (lent_bits (run n) bits) e (held-accepted gold gate (run n) bits (run_fits n) room cycle claim f)
      ∙ ap (λ (q : Position). stepped_to (Replay.step gold gate cycle claim q) (lent_bits (run n) bits)) (held-position gold gate (run n) bits (run_fits n) room)

  next-held : (n : ℕ) → n ≤ cycle → after_step a b cycle claim (held_at (run n) bits) ≡ held_at (run (suc n)) bits
  unfolding after_step stepped_to held_at
  next-held n h =
      ap (λ (x : StepResult). record { position = x.position; bits = x.bits }) (step-held n)
      ∙ ap (λ (q : Position). record { position = lent_position q; bits = lent_bits q (lent_bits (run n) bits) }) (next-at gold gate (initial_bits gold) (initial_bits gate) cycle claim n h)
      ∙ ap (λ (x : List ℕ). record { position = lent_position (run (suc n)); bits = x }) (held_twice gold gate (run n) bits (run_fits n) room (run (suc n)) (run_fits (suc n)))

  -- up to the claimed cycle, and past it by one, n steps from begin's leave the position of the runs
  pub steps_run : (n : ℕ) → n ≤ suc cycle → after_steps a b cycle claim n (after_begin a b p bits) ≡ held_at (run n) bits
  unfolding after_steps after_begin begun held_at run_position initial_position agree_before stored_at
  steps_run zero h = ap (λ (x : BeginResult). record { position = x.position; bits = x.bits }) (accepted-begin a b gold gate p bits e (begin-free gold gate cycle claim bits f l))
  steps_run (suc n) h = ap (after_step a b cycle claim) (steps_run n (omega arith)) ∙ next-held n (omega arith)

  -- what a step on what is held answers
  abbrev answer : ℕ → ReplayAnswer
  answer n = step_answer a b cycle claim (after_steps a b cycle claim n (after_begin a b p bits))

  answered : (n : ℕ) → n ≤ cycle → answer n ≡ record { refusal = accepted; yes = (taken n).yes }
  unfolding stepped_to step_answer
  answered n h =
      ap (step_answer a b cycle claim) (steps_run n (omega arith)) ∙ ap (λ (x : StepResult). x.answer) (step-held n)

  -- no before the claimed cycle
  pub steps_no : (n : ℕ) → n < cycle → answer n ≡ record { refusal = accepted; yes = false }
  unfolding advance run_position
  steps_no n h =
      answered n (omega arith)
      ∙ ap (λ (x : Stepped). record { refusal = accepted; yes = x.yes }) (step-at gold gate (initial_bits gold) (initial_bits gate) cycle claim n (omega arith))
      ∙ rw (ne_eqb n cycle (λ i. omega arith))

  -- at the claimed cycle replay's answer
  pub steps_answer : answer cycle ≡ replay a b cycle claim
  unfolding replay replay_read replay_pair steps_replay
  steps_answer =
      answered cycle (omega arith)
      ∙ ap (λ (y : Bool). record { refusal = accepted; yes = y })
      (ap (λ (q : Position). (Replay.step gold gate cycle claim q).yes) (sym (position_at gold gate (initial_bits gold) (initial_bits gate) cycle claim cycle (omega arith)))
      ∙ steps_replay_lem gold gate (initial_bits gold) (initial_bits gate) cycle claim)
      ∙ rw (e, f)

-- ---- one step from any position

-- the stored bits that are lent
module _ (a b : List ℕ) (cycle : ℕ) (claim : List ℕ) (gold gate : Design) (e : read_pair a b ≡ both gold gate) (p : LentPosition) (bits : List ℕ) (f : step_fault gold gate cycle claim bits ≡ none) where
  -- the lent bits are long enough, and of the right form
  lent-long : 256 ≤ length bits
  unfolding step_fault bits_fault too_few_bits
  lent-long =
      let x = otherwise_none (replay_fault gold gate cycle claim) _ f in
      let y = otherwise_none (refuse_if 24 0 0 (ltb (length bits) 256)) _ x.1 in
      ltb-false (length bits) 256 (refuse_if-none 24 0 0 _ y.0)

  lent_good : (all_bits (take (register_count gold) bits) ≡ true) × (all_bits (take (register_count gate) (drop gate_bits bits)) ≡ true)
  unfolding step_fault bits_fault bad_stored
  lent_good =
      let x = otherwise_none (replay_fault gold gate cycle claim) _ f in
      let y = otherwise_none (refuse_if 24 0 0 (too_few_bits bits)) _ x.1 in
      let z = or-both (not (all_bits (take (register_count gold) bits))) (not (all_bits (take (register_count gate) (drop gate_bits bits)))) (refuse_if-none 25 0 0 _ y.1) in
      (not-false _ z.0, not-false _ z.1)

  -- the position read and written back
  lent_same : lent_bits (position_from gold gate p bits) bits ≡ bits
  unfolding lent_bits position_from
  lent_same =
      let r = rooms a b gold gate bits e lent-long in
      ap (with_stored 128 (stored_bits 128 (register_count gate) bits)) (written_same 0 (register_count gold) bits (omega (arith, r.gold_room, lent-long)) lent_good.0)
      ∙ written_same 128 (register_count gate) bits (omega (arith, r.gate_room, lent-long)) lent_good.1

  -- past the claimed cycle nothing changes and the answer is no
  pub step_past : cycle < p.cycle → step a b cycle claim p bits ≡ record { answer = record { refusal = accepted; yes = false }; position = p; bits = bits }
  unfolding stepped_to Replay.step step_if lent_position position_from
  step_past h =
      accepted-step a b gold gate cycle claim p bits e f
      ∙ ap (λ (t : Bool). stepped_to (step_if gold gate cycle claim (position_from gold gate p bits) t) bits) (lt-ltb cycle p.cycle h)
      ∙ ap (λ (x : List ℕ). record { answer = record { refusal = accepted; yes = false }; position = p; bits = x }) lent_same

  -- up to it one cycle is run on the claim's inputs of the position's cycle
  pub step_runs : p.cycle ≤ cycle → step a b cycle claim p bits ≡ moved_from gold gate cycle claim p bits
  unfolding moved_from stepped_to Replay.step step_if advance lent_position lent_bits position_from stored_at differ_at outputs_at
  step_runs h =
      accepted-step a b gold gate cycle claim p bits e f
      ∙ ap (λ (t : Bool). stepped_to (step_if gold gate cycle claim (position_from gold gate p bits) t) bits) (le-ltb cycle p.cycle h)

-- ---- refused calls, and the bytes that count

-- a refused begin changes nothing
pub begin-refuses : (a b : List ℕ) (p : LentPosition) (bits : List ℕ) (r : Refusal) → begin_refusal a b bits ≡ some r → begin a b p bits ≡ record { answer = r; position = p; bits = bits }
unfolding begin begin_refusal begin_refusal_of begin_read begin_pair refused_begin
begin-refuses a b p bits r e = go (read_pair a b) e
  where
    go : (x : ReadPair) → begin_refusal_of x bits ≡ some r → begin_read x p bits ≡ record { answer = r; position = p; bits = bits }
    go (refused_pair q) h = let g : q ≡ r = cc in rw g
    go (both gold gate) h = rw h

-- a refused step changes nothing
pub step-refuses : (a b : List ℕ) (cycle : ℕ) (claim : List ℕ) (p : LentPosition) (bits : List ℕ) (r : Refusal) → step_refusal a b cycle claim bits ≡ some r
    → step a b cycle claim p bits ≡ record { answer = record { refusal = r; yes = false }; position = p; bits = bits }
unfolding step step_refusal step_refusal_of step_read step_pair refused_step refused_replay
step-refuses a b cycle claim p bits r e = go (read_pair a b) e
  where
    go : (x : ReadPair) → step_refusal_of x cycle claim bits ≡ some r → step_read x cycle claim p bits ≡ record { answer = record { refusal = r; yes = false }; position = p; bits = bits }
    go (refused_pair q) h = let g : q ≡ r = cc in rw g
    go (both gold gate) h = rw h

-- a byte that no register has stays where a position is written
lent-outside : (gold gate : Design) (q : Position) (bits : List ℕ) → Fits gold gate q → Room gold gate bits → (k : ℕ) → Outside gold gate k → get_or (lent_bits q bits) k 0 ≡ get_or bits k 0
unfolding lent_bits
lent-outside gold gate q bits f r k (between h i) =
    written-before 128 q.gate (with_stored 0 q.gold bits) (gate_in gold gate q bits f r) k i
    ∙ written_after 0 q.gold bits (gold_in gold gate q bits f r) k (omega (arith, f.gold_length))
lent-outside gold gate q bits f r k (past h) =
    written_after 128 q.gate (with_stored 0 q.gold bits) (gate_in gold gate q bits f r) k (omega (arith, f.gate_length))
    ∙ written_after 0 q.gold bits (gold_in gold gate q bits f r) k (omega (arith, f.gold_length, r.gold_room))

-- ---- the lent bytes after a call

kept-all : (gold gate : Design) (bits : List ℕ) → BytesKept gold gate bits bits
kept-all gold gate bits = record { same_length = refl; same_outside = λ k o. refl }

kept-lent : (gold gate : Design) (q : Position) (bits : List ℕ) → Fits gold gate q → Room gold gate bits → BytesKept gold gate bits (lent_bits q bits)
kept-lent gold gate q bits f r = record { same_length = lent_length gold gate q bits f r; same_outside = lent-outside gold gate q bits f r }

-- a step leaves a position of the two designs
step_fits : (gold gate : Design) (cycle : ℕ) (claim : List ℕ) (q : Position) → Fits gold gate q → (b : Bool) → Fits gold gate (step_if gold gate cycle claim q b).position
unfolding step_if advance next_stored register_count
step_fits gold gate cycle claim q f true = f
step_fits gold gate cycle claim q f false = record { gold_length = next-length _ _ 0 gold.registers; gate_length = next-length _ _ 0 gate.registers }

-- the stored bits that are lent are as many as the registers
from-fits : (gold gate : Design) (p : LentPosition) (bits : List ℕ) → Room gold gate bits → Fits gold gate (position_from gold gate p bits)
unfolding position_from stored_bits
from-fits gold gate p bits r =
    record {
      gold_length = length-map (take (register_count gold) (drop 0 bits)) bit ∙ length-take-le (register_count gold) bits (omega (arith, r.gold_room, r.long));
      gate_length = length-map (take (register_count gate) (drop gate_bits bits)) bit ∙ length-take-le (register_count gate) (drop gate_bits bits) (simp length-drop (omega (arith, r.gate_room, r.long)));
    }

-- ---- which bytes a step looks at

same_fault : (gold gate : Design) (cycle : ℕ) (claim bits others : List ℕ) → SameBits gold gate bits others → step_fault gold gate cycle claim bits ≡ step_fault gold gate cycle claim others
unfolding step_fault bits_fault bad_stored
same_fault gold gate cycle claim bits others o = rw (o.long, o.gold_bits, o.gate_bits_lem)

same-position : (gold gate : Design) (p : LentPosition) (bits others : List ℕ) → SameBits gold gate bits others → position_from gold gate p bits ≡ position_from gold gate p others
unfolding position_from stored_bits
same-position gold gate p bits others o = rw (o.gold_bits, o.gate_bits_lem)

same_step : (gold gate : Design) (cycle : ℕ) (claim : List ℕ) (p : LentPosition) (bits others : List ℕ) (x : Option Refusal) → position_from gold gate p bits ≡ position_from gold gate p others
    → ((step_pair gold gate cycle claim p bits x).answer ≡ (step_pair gold gate cycle claim p others x).answer) × ((step_pair gold gate cycle claim p bits x).position ≡ (step_pair gold gate cycle claim p others x).position)
unfolding step_pair refused_step stepped_to
same_step gold gate cycle claim p bits others (some r) q = (refl, refl)
same_step gold gate cycle claim p bits others none q = (rw q, rw q)

-- an accepted begin has lent bits that are long enough
begin-long : (gold gate : Design) (bits : List ℕ) → begin_fault gold gate bits ≡ none → 256 ≤ length bits
unfolding begin_fault too_few_bits
begin-long gold gate bits f =
    let x = otherwise_none (interface_fault gold gate) _ f in
    let y = otherwise_none (initial_fault gold gate) _ x.1 in
    ltb-false (length bits) 256 (refuse_if-none 24 0 0 _ y.1)

module _ (a b : List ℕ) (gold gate : Design) (e : read_pair a b ≡ both gold gate) (p : LentPosition) (bits : List ℕ) where
  -- after a begin
  pub begin-kept : BytesKept gold gate bits (begin a b p bits).bits
  unfolding begin begin_read begin_pair refused_begin begun initial_position
  begin-kept = subst (λ (x : ReadPair). BytesKept gold gate bits (begin_read x p bits).bits) (sym e) (go (begin_fault gold gate bits) refl)
    where
      go : (x : Option Refusal) → begin_fault gold gate bits ≡ x → BytesKept gold gate bits (begin_pair gold gate p bits x).bits
      go (some r) h = kept-all gold gate bits
      go none h = kept-lent gold gate _ bits (record { gold_length = initial_length gold; gate_length = initial_length gate }) (rooms a b gold gate bits e (begin-long gold gate bits h))

  -- after a step
  pub step_kept : (cycle : ℕ) (claim : List ℕ) → BytesKept gold gate bits (step a b cycle claim p bits).bits
  unfolding step step_read step_pair refused_step stepped_to Replay.step
  step_kept cycle claim = subst (λ (x : ReadPair). BytesKept gold gate bits (step_read x cycle claim p bits).bits) (sym e) (go (step_fault gold gate cycle claim bits) refl)
    where
      go : (x : Option Refusal) → step_fault gold gate cycle claim bits ≡ x → BytesKept gold gate bits (step_pair gold gate cycle claim p bits x).bits
      go (some r) h = kept-all gold gate bits
      go none h =
          let r = rooms a b gold gate bits e (lent-long a b cycle claim gold gate e p bits h) in
          kept-lent gold gate _ bits (step_fits gold gate cycle claim (position_from gold gate p bits) (from-fits gold gate p bits r) _) r

  -- no answer and no position depends on a byte that no register has
  pub step-alike : (cycle : ℕ) (claim others : List ℕ) → SameBits gold gate bits others
      → ((step a b cycle claim p bits).answer ≡ (step a b cycle claim p others).answer) × ((step a b cycle claim p bits).position ≡ (step a b cycle claim p others).position)
  unfolding step step_read
  step-alike cycle claim others o =
      rw (e, same_fault gold gate cycle claim bits others o) (same_step gold gate cycle claim p bits others (step_fault gold gate cycle claim others) (same-position gold gate p bits others o))

-- ---- number 0

-- an accepted call answers number 0
step-number : (x : ReadPair) (cycle : ℕ) (claim : List ℕ) (p : LentPosition) (bits : List ℕ) → step_refusal_of x cycle claim bits ≡ none → (step_read x cycle claim p bits).answer.refusal.number ≡ 0
unfolding step_refusal_of step_read step_pair stepped_to accepted
step-number (refused_pair r) cycle claim p bits h = absurd (let z : ◌≡◌ {A = ℕ} 0 1 = cc in omega arith)
step-number (both gold gate) cycle claim p bits h = rw h

begin-number : (x : ReadPair) (p : LentPosition) (bits : List ℕ) → begin_refusal_of x bits ≡ none → (begin_read x p bits).answer.number ≡ 0
unfolding begin_refusal_of begin_read begin_pair begun accepted
begin-number (refused_pair r) p bits h = absurd (let z : ◌≡◌ {A = ℕ} 0 1 = cc in omega arith)
begin-number (both gold gate) p bits h = rw h

-- and only an accepted call does
pub step-zero : (a b : List ℕ) (cycle : ℕ) (claim : List ℕ) (p : LentPosition) (bits : List ℕ) → ((step a b cycle claim p bits).answer.refusal.number ≡ 0) ↔ (step_refusal a b cycle claim bits ≡ none)
unfolding step step_refusal
step-zero a b cycle claim p bits = (λ h. go (step_refusal a b cycle claim bits) refl h, step-number (read_pair a b) cycle claim p bits)
  where
    go : (x : Option Refusal) → step_refusal a b cycle claim bits ≡ x → (step a b cycle claim p bits).answer.refusal.number ≡ 0 → x ≡ none
    go none f h = refl
    go (some r) f h = absurd (step-not-zero r (step-within a b cycle claim bits r f) (sym (ap (λ (z : StepResult). z.answer.refusal.number) (step-refuses a b cycle claim p bits r f)) ∙ h))

pub begin-zero : (a b : List ℕ) (p : LentPosition) (bits : List ℕ) → ((begin a b p bits).answer.number ≡ 0) ↔ (begin_refusal a b bits ≡ none)
unfolding begin begin_refusal
begin-zero a b p bits = (λ h. go (begin_refusal a b bits) refl h, begin-number (read_pair a b) p bits)
  where
    go : (x : Option Refusal) → begin_refusal a b bits ≡ x → (begin a b p bits).answer.number ≡ 0 → x ≡ none
    go none f h = refl
    go (some r) f h = absurd (begin-not-zero r (begin-within a b bits r f) (sym (ap (λ (z : BeginResult). z.answer.number) (begin-refuses a b p bits r f)) ∙ h))
