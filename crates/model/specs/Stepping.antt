-- The stepping call: a replay position that the caller lends, begun before cycle 0 and moved on by one cycle with each call. Definitions only.
use Rattle.std.specs.Prelude.{ℕ, ◌+◌, Bool, not, ◌||◌, List, ◌++◌, map, length, take, drop, ltb}
use Rattle.std.proofs.Math.Option.{Option, none, some}
use Rattle.model.specs.Answers.{Refusal, accepted, ReplayAnswer}
use Rattle.model.specs.Netlist.{Design, register_count}
use Rattle.model.specs.Record.{bit}
use Rattle.model.specs.Validate.{◌otherwise◌, refuse_if}
use Rattle.model.specs.Run.{StoredBits, initial_bits}
use Rattle.model.specs.Pair.{interface_fault, initial_fault, replay_fault, all_bits, ReadPair, both, refused_pair, read_pair}
use Rattle.model.specs.Replay.{Position, Stepped, initial_position, refused_replay}
use Rattle.model.specs.Replay as Replay
use Rattle.model.specs.Encode.{bit_byte}

-- the position that is lent beside the stored bits: the next cycle, and whether the outputs agreed before it
pub record LentPosition : Type 0 where
  pub cycle : ℕ
  pub agreed : Bool

-- ---- the lent bits: gold's stored bits by register number from byte 0 on, gate's from byte 128 on

-- where gate's bits begin
abbrev pub gate_bits : ℕ
gate_bits = 128

-- the stored bits of so many registers, from a byte on
unfoldable pub stored_bits : ℕ → ℕ → List ℕ → StoredBits
stored_bits at count bits = map bit (take count (drop at bits))

-- stored bits written from a byte on; every other byte stays
unfoldable pub with_stored : ℕ → StoredBits → List ℕ → List ℕ
with_stored at stored bits = take at bits ++ map bit_byte stored ++ drop (at + length stored) bits

-- the replay position that is lent
unfoldable pub position_from : Design → Design → LentPosition → List ℕ → Position
position_from gold gate p bits =
    record {
      cycle = p.cycle;
      agreed = p.agreed;
      gold = stored_bits 0 (register_count gold) bits;
      gate = stored_bits gate_bits (register_count gate) bits;
    }

-- the lent part of a replay position
unfoldable pub lent_position : Position → LentPosition
lent_position p = record { cycle = p.cycle; agreed = p.agreed }

-- the lent bits with the stored bits of a replay position
unfoldable pub lent_bits : Position → List ℕ → List ℕ
lent_bits p bits = with_stored gate_bits p.gate (with_stored 0 p.gold bits)

-- ---- refusals

-- 24 there are fewer than 256 lent bits
unfoldable pub too_few_bits : List ℕ → Bool
too_few_bits bits = ltb (length bits) 256

-- 25 a byte of a register's stored bit is neither 0 nor 1
unfoldable pub bad_stored : Design → Design → List ℕ → Bool
bad_stored gold gate bits = not (all_bits (take (register_count gold) bits)) || not (all_bits (take (register_count gate) (drop gate_bits bits)))

-- 24 and 25 of the lent bits
unfoldable pub bits_fault : Design → Design → List ℕ → Option Refusal
bits_fault gold gate bits = refuse_if 24 0 0 (too_few_bits bits) otherwise refuse_if 25 0 0 (bad_stored gold gate bits)

-- the first refusal of 18 to 22 and 24, for a begin
unfoldable pub begin_fault : Design → Design → List ℕ → Option Refusal
begin_fault gold gate bits = interface_fault gold gate otherwise initial_fault gold gate otherwise refuse_if 24 0 0 (too_few_bits bits)

-- the first refusal of 18 to 22, 25 for the claim, 24 and 25 for the lent bits, for a step
unfoldable pub step_fault : Design → Design → ℕ → List ℕ → List ℕ → Option Refusal
step_fault gold gate cycle claim bits = replay_fault gold gate cycle claim otherwise bits_fault gold gate bits

-- ---- begin

-- what a begin answers, and the lent position and bits after it
pub record BeginResult : Type 0 where
  pub answer : Refusal
  pub position : LentPosition
  pub bits : List ℕ

-- a refused begin changes nothing
unfoldable pub refused_begin : Refusal → LentPosition → List ℕ → BeginResult
refused_begin r p bits = record { answer = r; position = p; bits = bits }

-- an accepted begin lends back the initial position
unfoldable pub begun : Design → Design → List ℕ → BeginResult
begun gold gate bits =
    let q = initial_position (initial_bits gold) (initial_bits gate) in
    record { answer = accepted; position = lent_position q; bits = lent_bits q bits }

-- the begin of two accepted records, given the first refusal
unfoldable pub begin_pair : Design → Design → LentPosition → List ℕ → Option Refusal → BeginResult
begin_pair gold gate p bits (some r) = refused_begin r p bits
begin_pair gold gate p bits none = begun gold gate bits

-- the begin of two records read
unfoldable pub begin_read : ReadPair → LentPosition → List ℕ → BeginResult
begin_read (refused_pair r) p bits = refused_begin r p bits
begin_read (both gold gate) p bits = begin_pair gold gate p bits (begin_fault gold gate bits)

-- begin: gold's record, gate's record, the lent position and bits
unfoldable pub begin : List ℕ → List ℕ → LentPosition → List ℕ → BeginResult
begin gold gate p bits = begin_read (read_pair gold gate) p bits

-- ---- step

-- what a step answers, and the lent position and bits after it
pub record StepResult : Type 0 where
  pub answer : ReplayAnswer
  pub position : LentPosition
  pub bits : List ℕ

-- a refused step changes nothing
unfoldable pub refused_step : Refusal → LentPosition → List ℕ → StepResult
refused_step r p bits = record { answer = refused_replay r; position = p; bits = bits }

-- an accepted step answers its yes or no and lends back the position after it
unfoldable pub stepped_to : Stepped → List ℕ → StepResult
stepped_to s bits =
    record {
      answer = record { refusal = accepted; yes = s.yes };
      position = lent_position s.position;
      bits = lent_bits s.position bits;
    }

-- the step of two accepted records, given the first refusal
unfoldable pub step_pair : Design → Design → ℕ → List ℕ → LentPosition → List ℕ → Option Refusal → StepResult
step_pair gold gate cycle claim p bits (some r) = refused_step r p bits
step_pair gold gate cycle claim p bits none = stepped_to (Replay.step gold gate cycle claim (position_from gold gate p bits)) bits

-- the step of two records read
unfoldable pub step_read : ReadPair → ℕ → List ℕ → LentPosition → List ℕ → StepResult
step_read (refused_pair r) cycle claim p bits = refused_step r p bits
step_read (both gold gate) cycle claim p bits = step_pair gold gate cycle claim p bits (step_fault gold gate cycle claim bits)

-- step: gold's record, gate's record, the claimed cycle, the claim, the lent position and bits
unfoldable pub step : List ℕ → List ℕ → ℕ → List ℕ → LentPosition → List ℕ → StepResult
step gold gate cycle claim p bits = step_read (read_pair gold gate) cycle claim p bits

-- naming this opens them all
unfoldable pub all : Unit {0}
unfolding stored_bits with_stored position_from lent_position lent_bits too_few_bits bad_stored bits_fault begin_fault step_fault refused_begin begun begin_pair begin_read begin refused_step stepped_to step_pair step_read step bit_byte Replay.all
all = tt
