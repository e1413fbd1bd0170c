-- The words of the promises on the stepping call that `model` does not have: many calls one after another, the refusal of a call and its numbers, and which bytes it looks at. Definitions only, over `model` and `Terms` alone. Assumes nothing.
use Rattle.std.specs.Prelude.{ℕ, zero, suc, ◌+◌, ◌≤◌, ◌<◌, ◌≡◌, not, ◌&&◌, List, eqb, length, take, drop, get_or}
use Rattle.std.proofs.Math.Option.{Option, some}
use Rattle.model.specs.Answers.{Refusal, accepted, ReplayAnswer}
use Rattle.model.specs.Netlist.{Design, register_count}
use Rattle.model.specs.Run.{StoredBits, InputSequence, stored_at, outputs_at}
use Rattle.model.specs.Pair.{ReadPair, both, refused_pair, read_pair}
use Rattle.model.specs.Replay.{Position, claim_inputs, differ_at, agree_before, differ_as_claimed}
use Rattle.model.specs.Stepping.{LentPosition, StepResult, gate_bits, stored_bits, with_stored, lent_position, lent_bits, too_few_bits, begin_fault, step_fault, begin, step}
use Rattle.laws.specs.Terms.{Within, OfOne, OfReplay}

-- ---- the refusal of a call, from the bytes of both records

-- the first refusal of a begin on two records read
unfoldable pub begin_refusal_of : ReadPair → List ℕ → Option Refusal
begin_refusal_of (refused_pair r) bits = some r
begin_refusal_of (both gold gate) bits = begin_fault gold gate bits

-- the first refusal of a begin
unfoldable pub begin_refusal : List ℕ → List ℕ → List ℕ → Option Refusal
begin_refusal a b bits = begin_refusal_of (read_pair a b) bits

-- the first refusal of a step on two records read
unfoldable pub step_refusal_of : ReadPair → ℕ → List ℕ → List ℕ → Option Refusal
step_refusal_of (refused_pair r) cycle claim bits = some r
step_refusal_of (both gold gate) cycle claim bits = step_fault gold gate cycle claim bits

-- the first refusal of a step
unfoldable pub step_refusal : List ℕ → List ℕ → ℕ → List ℕ → List ℕ → Option Refusal
step_refusal a b cycle claim bits = step_refusal_of (read_pair a b) cycle claim bits

-- a refusal of a begin: one of a record, 18 to 22, or 24
pub data OfBegin (r : Refusal) : Type 0 where
  of_reading : OfOne r → OfBegin r
  of_comparing : Within 18 22 r → OfBegin r
  of_length : r.number ≡ 24 → OfBegin r

-- a refusal of a step: one of a replay, or 24
pub data OfStep (r : Refusal) : Type 0 where
  as_replay : OfReplay r → OfStep r
  of_bits_lem : r.number ≡ 24 → OfStep r

-- ---- many calls

-- what a caller holds between two calls
pub record Held : Type 0 where
  pub position : LentPosition
  pub bits : List ℕ

-- what a begin leaves
unfoldable pub after_begin : List ℕ → List ℕ → LentPosition → List ℕ → Held
after_begin a b p bits = record { position = (begin a b p bits).position; bits = (begin a b p bits).bits }

-- what a step leaves
unfoldable pub after_step : List ℕ → List ℕ → ℕ → List ℕ → Held → Held
after_step a b cycle claim h =
    record { position = (step a b cycle claim h.position h.bits).position; bits = (step a b cycle claim h.position h.bits).bits }

-- what a step on what is held answers
unfoldable pub step_answer : List ℕ → List ℕ → ℕ → List ℕ → Held → ReplayAnswer
step_answer a b cycle claim h = (step a b cycle claim h.position h.bits).answer

-- what n steps leave
unfoldable pub after_steps : List ℕ → List ℕ → ℕ → List ℕ → ℕ → Held → Held
after_steps a b cycle claim zero h = h
after_steps a b cycle claim (suc n) h = after_step a b cycle claim (after_steps a b cycle claim n h)

-- the replay position that the two runs give at the start of cycle n
unfoldable pub run_position : Design → Design → StoredBits → StoredBits → InputSequence → ℕ → Position
run_position gold gate s t ins n =
    record { cycle = n; agreed = agree_before gold gate s t ins n; gold = stored_at gold s ins n; gate = stored_at gate t ins n }

-- a replay position held in lent bits
unfoldable pub held_at : Position → List ℕ → Held
held_at q bits = record { position = lent_position q; bits = lent_bits q bits }

-- ---- one step, up to the claimed cycle

-- one cycle of both runs from the lent bits, on the claim's inputs of the position's cycle: the answer, the position and the bits after it
unfoldable pub moved_from : Design → Design → ℕ → List ℕ → LentPosition → List ℕ → StepResult
moved_from gold gate cycle claim p bits =
    let s = stored_bits 0 (register_count gold) bits in
    let t = stored_bits gate_bits (register_count gate) bits in
    let ins : InputSequence = λ _. claim_inputs gold claim p.cycle in
    let xs = outputs_at gold s ins 0 in
    let ys = outputs_at gate t ins 0 in
    record {
      answer = record { refusal = accepted; yes = eqb p.cycle cycle && (p.agreed && differ_as_claimed gold cycle claim xs ys) };
      position = record { cycle = suc p.cycle; agreed = p.agreed && not (differ_at gold gate s t ins 0) };
      bits = with_stored gate_bits (stored_at gate t ins 1) (with_stored 0 (stored_at gold s ins 1) bits);
    }

-- ---- which bytes count

-- a byte that no register has
pub data Outside (gold gate : Design) (k : ℕ) : Type 0 where
  between : register_count gold ≤ k → k < gate_bits → Outside gold gate k
  past : gate_bits + register_count gate ≤ k → Outside gold gate k

-- after a call the lent bits are as many as before, and the bytes that no register has are what they were
pub record BytesKept (gold gate : Design) (bits after : List ℕ) : Type 0 where
  pub same_length : length after ≡ length bits
  pub same_outside : (k : ℕ) → Outside gold gate k → get_or after k 0 ≡ get_or bits k 0

-- two lists of lent bits that are both long enough or both not, and alike in the bytes of the registers
pub record SameBits (gold gate : Design) (bits others : List ℕ) : Type 0 where
  pub long : too_few_bits bits ≡ too_few_bits others
  pub gold_bits : take (register_count gold) bits ≡ take (register_count gold) others
  pub gate_bits_lem : take (register_count gate) (drop gate_bits bits) ≡ take (register_count gate) (drop gate_bits others)
