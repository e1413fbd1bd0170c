-- The replay of a claimed trace: its answer by the run, and one step of it. Definitions only.
use Rattle.std.specs.Prelude.{ℕ, zero, suc, ◌+◌, ◌*◌, Bool, true, false, not, ◌&&◌, ◌||◌, List, [], ◌∷◌, get_or, eqb, ltb}
use Rattle.std.specs.Bool.{xor}
use Rattle.std.proofs.Math.Option.{Option, none, some}
use Rattle.model.specs.Answers.{Refusal, accepted, ReplayAnswer}
use Rattle.model.specs.Names.{rank}
use Rattle.model.specs.Netlist.{Design, inputs, input_count}
use Rattle.model.specs.Record.{bit}
use Rattle.model.specs.Validate as Validate
use Rattle.model.specs.Run.{InputSequence, StoredBits, node_values, next_stored, output_bits, outputs_at, initial_bits}
use Rattle.model.specs.Run as Run
use Rattle.model.specs.Pair.{replay_fault, ReadPair, both, refused_pair, read_pair}
use Rattle.model.specs.Pair as Pair

-- the byte at a place of the claim, as a bit
unfoldable pub claim_bit : List ℕ → ℕ → Bool
claim_bit claim k = bit (get_or claim k 0)

-- the input sequence of a claim: inputs in byte order of names, cycle after cycle
unfoldable pub claim_inputs : Design → List ℕ → InputSequence
claim_inputs d claim c n = claim_bit claim (c * input_count d + rank n (inputs d))

-- the bits of two lists are marked, from place k of the claim on, exactly where they differ
unfoldable pub differ_as_marked : List ℕ → ℕ → List Bool → List Bool → Bool
differ_as_marked claim k [] ys = true
differ_as_marked claim k (a ∷ xs) [] = true
differ_as_marked claim k (a ∷ xs) (b ∷ ys) =
    let rest = differ_as_marked claim (suc k) xs ys in not (xor (xor a b) (claim_bit claim k)) && rest

-- the two lists of bits differ somewhere
unfoldable pub bits_differ : List Bool → List Bool → Bool
bits_differ [] ys = false
bits_differ (a ∷ xs) [] = false
bits_differ (a ∷ xs) (b ∷ ys) = let rest = bits_differ xs ys in xor a b || rest

-- the outputs of the two designs differ in a cycle of their runs from the given start bits
unfoldable pub differ_at : Design → Design → StoredBits → StoredBits → InputSequence → ℕ → Bool
differ_at gold gate s t ins c = bits_differ (outputs_at gold s ins c) (outputs_at gate t ins c)

-- the outputs agree in every cycle before c
unfoldable pub agree_before : Design → Design → StoredBits → StoredBits → InputSequence → ℕ → Bool
agree_before gold gate s t ins zero = true
agree_before gold gate s t ins (suc c) =
    let last = not (differ_at gold gate s t ins c) in agree_before gold gate s t ins c && last

-- in the claimed cycle they differ in exactly the marked outputs, at least one
unfoldable pub differ_as_claimed : Design → ℕ → List ℕ → List Bool → List Bool → Bool
differ_as_claimed gold cycle claim xs ys = bits_differ xs ys && differ_as_marked claim (suc cycle * input_count gold) xs ys

-- the yes or no of a replay from the given start bits
unfoldable pub replays : Design → Design → StoredBits → StoredBits → ℕ → List ℕ → Bool
replays gold gate s t cycle claim =
    let ins = claim_inputs gold claim in
    agree_before gold gate s t ins cycle
    && differ_as_claimed gold cycle claim (outputs_at gold s ins cycle) (outputs_at gate t ins cycle)

-- ---- the whole answer, from the bytes lent

-- a refused replay
unfoldable pub refused_replay : Refusal → ReplayAnswer
refused_replay r = record { refusal = r; yes = false }

-- the answer for two accepted records
unfoldable pub replay_pair : Design → Design → ℕ → List ℕ → Option Refusal → ReplayAnswer
replay_pair gold gate cycle claim (some r) = refused_replay r
replay_pair gold gate cycle claim none =
    record { refusal = accepted; yes = replays gold gate (initial_bits gold) (initial_bits gate) cycle claim }

-- the answer for two records read
unfoldable pub replay_read : ReadPair → ℕ → List ℕ → ReplayAnswer
replay_read (refused_pair r) cycle claim = refused_replay r
replay_read (both gold gate) cycle claim = replay_pair gold gate cycle claim (replay_fault gold gate cycle claim)

-- replay: gold's record, gate's record, the claimed cycle, the claim
unfoldable pub replay : List ℕ → List ℕ → ℕ → List ℕ → ReplayAnswer
replay gold gate cycle claim = replay_read (read_pair gold gate) cycle claim

-- ---- one step

-- a replay position: the next cycle, whether the outputs agreed before it, and the stored bits of both sides
pub record Position : Type 0 where
  pub cycle : ℕ
  pub agreed : Bool
  pub gold : StoredBits
  pub gate : StoredBits

-- what a step gives: the position after it, and yes or no
pub record Stepped : Type 0 where
  pub position : Position
  pub yes : Bool

-- the position before cycle 0
unfoldable pub initial_position : StoredBits → StoredBits → Position
initial_position s t = record { cycle = 0; agreed = true; gold = s; gate = t }

-- one cycle: the position after it, and yes where it is the claimed one and differs as marked after agreement
unfoldable pub advance : Design → Design → ℕ → List ℕ → Position → Stepped
advance gold gate cycle claim p =
    let inp = claim_inputs gold claim p.cycle in
    let u = node_values gold inp p.gold in
    let v = node_values gate inp p.gate in
    let xs = output_bits gold u in
    let ys = output_bits gate v in
    record {
      position =
          record {
            cycle = suc p.cycle;
            agreed = p.agreed && not (bits_differ xs ys);
            gold = next_stored gold u p.gold;
            gate = next_stored gate v p.gate;
          };
      yes = eqb p.cycle cycle && (p.agreed && differ_as_claimed gold cycle claim xs ys);
    }

-- past the claimed cycle nothing changes and the answer is no
unfoldable pub step_if : Design → Design → ℕ → List ℕ → Position → Bool → Stepped
step_if gold gate cycle claim p true = record { position = p; yes = false }
step_if gold gate cycle claim p false = advance gold gate cycle claim p

-- one step from a position
unfoldable pub step : Design → Design → ℕ → List ℕ → Position → Stepped
step gold gate cycle claim p = step_if gold gate cycle claim p (ltb cycle p.cycle)

-- the position after n steps
unfoldable pub position_after : Design → Design → ℕ → List ℕ → ℕ → Position → Position
position_after gold gate cycle claim zero p = p
position_after gold gate cycle claim (suc n) p = (step gold gate cycle claim (position_after gold gate cycle claim n p)).position

-- the answer of the step at the claimed cycle
unfoldable pub steps_replay : Design → Design → StoredBits → StoredBits → ℕ → List ℕ → Bool
steps_replay gold gate s t cycle claim =
    (step gold gate cycle claim (position_after gold gate cycle claim cycle (initial_position s t))).yes

-- naming this opens them all
unfoldable pub all : Unit {0}
unfolding claim_bit claim_inputs differ_as_marked bits_differ differ_at agree_before differ_as_claimed replays refused_replay replay_pair replay_read replay initial_position advance step_if step position_after steps_replay Validate.all Run.all Pair.all
all = tt
