-- The refusals 16, 17, 36 and 18 to 24 from counts, and in the parts in which they are tested. Definitions only.
use Rattle.std.specs.Prelude.{ℕ, suc, ◌+◌, ◌*◌, Bool, ◌||◌, eqb, ltb}
use Rattle.std.proofs.Math.Option.{Option}
use Rattle.words.specs.Layout.{LENT, MOST-NODES}
use Rattle.model.specs.Answers.{Refusal}
use Rattle.model.specs.Options.{Options, learned_limit}
use Rattle.model.specs.Netlist.{Design}
use Rattle.model.specs.Validate.{◌otherwise◌, refuse_if}
use Rattle.model.specs.Pair as Pair
use Rattle.model.specs.Pair.{interface_fault, initial_fault, proof_nodes, too_short}

-- F, from the counts of inputs and outputs of one side, and of nodes and registers of both
unfoldable pub frames_by : (inputs outputs nodes registers : ℕ) → ℕ
frames_by inputs outputs nodes registers = inputs + 3 * nodes + 10 * registers + 4 * outputs + 1

-- (D + 1) × F + R
unfoldable pub nodes_by : (inputs outputs nodes registers depth : ℕ) → ℕ
nodes_by inputs outputs nodes registers depth = suc depth * frames_by inputs outputs nodes registers + registers

-- a lent buffer is too short
unfoldable pub short_by : (inputs outputs depth : ℕ) → Pair.Lent → Bool
short_by inputs outputs depth lent = ltb lent.trace (suc depth * inputs + outputs) || ltb lent.words LENT || ltb lent.scores MOST-NODES

-- 16, 17 and 36
unfoldable pub options_fault : Options → Option Refusal
options_fault o = refuse_if 16 0 0 (eqb o.depth 0) otherwise refuse_if 17 0 0 (ltb 64 o.depth) otherwise refuse_if 36 0 0 (ltb learned_limit o.limit)

-- 23 and 24, from the counts
unfoldable pub size_fault : (inputs outputs nodes registers depth : ℕ) → Pair.Lent → Option Refusal
size_fault inputs outputs nodes registers depth lent =
    refuse_if 23 0 0 (ltb 65535 (nodes_by inputs outputs nodes registers depth))
    otherwise refuse_if 24 0 0 (short_by inputs outputs depth lent)

-- 22 to 24
unfoldable pub initial_and_size_fault : Design → Design → ℕ → Pair.Lent → Option Refusal
initial_and_size_fault gold gate depth lent =
    initial_fault gold gate
    otherwise refuse_if 23 0 0 (ltb 65535 (proof_nodes gold gate depth))
    otherwise refuse_if 24 0 0 (too_short gold depth lent)

-- 18 to 24
unfoldable pub pair_fault : Design → Design → ℕ → Pair.Lent → Option Refusal
pair_fault gold gate depth lent = interface_fault gold gate otherwise initial_and_size_fault gold gate depth lent
