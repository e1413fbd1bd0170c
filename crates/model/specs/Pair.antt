-- The checks of a pair of accepted designs: refusals 16 to 24 and 36 for a check, 18 to 22 and 25 for a replay. Definitions only.
use Rattle.std.specs.Prelude.{ℕ, suc, ◌+◌, ◌*◌, Bool, true, false, not, ◌&&◌, ◌||◌, List, [], ◌∷◌, length, eqb, ltb}
use Rattle.std.proofs.Math.Option.{Option, none, some}
use Rattle.std.proofs.Math.ListN.{get_elem?}
use Rattle.model.specs.Answers.{Refusal}
use Rattle.model.specs.Options.{Options, learned_limit}
use Rattle.model.specs.Options as Options
use Rattle.model.specs.Names.{Name, Place, same_name, same_names, names_of}
use Rattle.model.specs.Netlist.{Node, Edge, Rising, Falling, Reset, Register, Design, input_name, inputs, outputs, registers_by_name, input_count, output_count, node_count, register_count}
use Rattle.model.specs.Record.{Read, parsed, refused_record}
use Rattle.model.specs.Validate.{◌otherwise◌, refuse_if, read_record}
use Rattle.model.specs.Validate as Validate

-- 18 the sets of input names differ: without repeats, that is the names in byte order
unfoldable pub inputs_differ : Design → Design → Bool
inputs_differ gold gate = not (same_names (names_of (inputs gold)) (names_of (inputs gate)))

-- 19 the sets of output names differ
unfoldable pub outputs_differ : Design → Design → Bool
outputs_differ gold gate = not (same_names (names_of (outputs gold)) (names_of (outputs gate)))

-- a clock domain: the name of the clock's Input, and the edge
pub record Domain : Type 0 where
  pub clock : Name
  pub edge : Edge

-- a name, or none
unfoldable pub name_or : Option Name → Name
name_or none = []
name_or (some n) = n

-- the Input name of a node
unfoldable pub name_at : Option Node → Name
name_at none = []
name_at (some n) = name_or (input_name n)

-- the clock domain of a register
unfoldable pub domain_of : List Node → Register → Domain
domain_of nodes r = record { clock = name_at (get_elem? nodes r.clock); edge = r.edge }

-- the two edges are the same
unfoldable pub same_edge : Edge → Edge → Bool
same_edge Rising Rising = true
same_edge Rising Falling = false
same_edge Falling Rising = false
same_edge Falling Falling = true

-- the two domains have the same clock name and edge
unfoldable pub same_domain : Domain → Domain → Bool
same_domain a b = same_name a.clock b.clock && same_edge a.edge b.edge

-- every register has the domain
unfoldable pub all_in : List Node → Domain → List Register → Bool
all_in nodes a [] = true
all_in nodes a (r ∷ rs) = let rest = all_in nodes a rs in same_domain a (domain_of nodes r) && rest

-- 20 the registers have two clock names or edges
unfoldable pub many_domains : List Node → List Register → Bool
many_domains nodes [] = false
many_domains nodes (r ∷ rs) = not (all_in nodes (domain_of nodes r) rs)

-- the domain of a design with registers: that of its first one
unfoldable pub domain : List Node → List Register → Option Domain
domain nodes [] = none
domain nodes (r ∷ rs) = some (domain_of nodes r)

-- 21 the domains differ, or only one side has registers
unfoldable pub domains_differ : Option Domain → Option Domain → Bool
domains_differ none none = false
domains_differ none (some b) = true
domains_differ (some a) none = true
domains_differ (some a) (some b) = not (same_domain a b)

-- 18 to 21
unfoldable pub interface_fault : Design → Design → Option Refusal
interface_fault gold gate =
    refuse_if 18 0 0 (inputs_differ gold gate)
    otherwise refuse_if 19 0 0 (outputs_differ gold gate)
    otherwise refuse_if 20 0 0 (many_domains gold.nodes gold.registers)
    otherwise refuse_if 20 1 0 (many_domains gate.nodes gate.registers)
    otherwise refuse_if 21 0 0 (domains_differ (domain gold.nodes gold.registers) (domain gate.nodes gate.registers))

-- there is no reset
unfoldable pub no_reset : Option Reset → Bool
no_reset none = true
no_reset (some r) = false

-- the register of a number has no reset
unfoldable pub no_reset_at : Option Register → Bool
no_reset_at none = false
no_reset_at (some r) = no_reset r.reset

-- 22 on a side: the first place whose register has no reset
unfoldable pub resets_fault : ℕ → List Register → List Place → Option Refusal
resets_fault side rs [] = none
resets_fault side rs (p ∷ ps) =
    let rest = resets_fault side rs ps in
    refuse_if 22 side p.number (no_reset_at (get_elem? rs p.number)) otherwise rest

-- 22: gold by name, then gate by name
unfoldable pub initial_fault : Design → Design → Option Refusal
initial_fault gold gate =
    resets_fault 0 gold.registers (registers_by_name gold)
    otherwise resets_fault 1 gate.registers (registers_by_name gate)

-- F = I + 3×N + 10×R + 4×O + 1
unfoldable pub nodes_per_cycle : Design → Design → ℕ
nodes_per_cycle gold gate =
    input_count gold + 3 * (node_count gold + node_count gate) + 10 * (register_count gold + register_count gate)
    + 4 * output_count gold + 1

-- (D+1)×F + R
unfoldable pub proof_nodes : Design → Design → ℕ → ℕ
proof_nodes gold gate depth = suc depth * nodes_per_cycle gold gate + (register_count gold + register_count gate)

-- the lengths of the lent buffers: trace bytes, work words of 32 bits, scores of 64 bits
pub record Lent : Type 0 where
  pub trace : ℕ
  pub words : ℕ
  pub scores : ℕ

-- bytes of a trace of cycles 0 to c, with a byte for each output
unfoldable pub trace_length : Design → ℕ → ℕ
trace_length d c = suc c * input_count d + output_count d

-- 24 a lent buffer is too short
unfoldable pub too_short : Design → ℕ → Lent → Bool
too_short gold depth lent = ltb lent.trace (trace_length gold depth) || ltb lent.words 8388608 || ltb lent.scores 65536

-- the first refusal of a check under its options: 16, 17, 36 a limit above the largest, 18 to 24
unfoldable pub check_fault : Design → Design → Options → Lent → Option Refusal
check_fault gold gate options lent =
    refuse_if 16 0 0 (eqb options.depth 0)
    otherwise refuse_if 17 0 0 (ltb 64 options.depth)
    otherwise refuse_if 36 0 0 (ltb learned_limit options.limit)
    otherwise interface_fault gold gate
    otherwise initial_fault gold gate
    otherwise refuse_if 23 0 0 (ltb 65535 (proof_nodes gold gate options.depth))
    otherwise refuse_if 24 0 0 (too_short gold options.depth lent)

-- every byte is 0 or 1
unfoldable pub all_bits : List ℕ → Bool
all_bits [] = true
all_bits (b ∷ bs) = let rest = all_bits bs in ltb b 2 && rest

-- 25 the claimed cycle is over 64, or the claim has another length or another byte than 0 and 1
unfoldable pub bad_claim : Design → ℕ → List ℕ → Bool
bad_claim gold cycle claim = ltb 64 cycle || not (eqb (length claim) (trace_length gold cycle)) || not (all_bits claim)

-- the first refusal of 18 to 22 and 25, for a replay
unfoldable pub replay_fault : Design → Design → ℕ → List ℕ → Option Refusal
replay_fault gold gate cycle claim =
    interface_fault gold gate
    otherwise initial_fault gold gate
    otherwise refuse_if 25 0 0 (bad_claim gold cycle claim)

-- ---- from the bytes of both records

-- both records accepted, or the first refusal of 1 to 15 and 30: gold wholly, then gate
pub data ReadPair : Type 0 where
  both : Design → Design → ReadPair
  refused_pair : Refusal → ReadPair

-- a refusal of gate's record
unfoldable pub on_gate : Refusal → Refusal
on_gate r = record { number = r.number; side = 1; place = r.place }

-- gold's design with gate's record read
unfoldable pub with_gate : Design → Read → ReadPair
with_gate gold (parsed gate) = both gold gate
with_gate gold (refused_record r) = refused_pair (on_gate r)

-- gold's record read, then gate's
unfoldable pub with_gold : Read → List ℕ → ReadPair
with_gold (parsed gold) gate = with_gate gold (read_record gate)
with_gold (refused_record r) gate = refused_pair r

-- both records read
unfoldable pub read_pair : List ℕ → List ℕ → ReadPair
read_pair gold gate = with_gold (read_record gold) gate

-- the first refusal of a check
unfoldable pub check_refusal_of : ReadPair → Options → Lent → Option Refusal
check_refusal_of (refused_pair r) options lent = some r
check_refusal_of (both gold gate) options lent = check_fault gold gate options lent

-- the first refusal of a check, from the bytes of both records
unfoldable pub check_refusal : List ℕ → List ℕ → Options → Lent → Option Refusal
check_refusal gold gate options lent = check_refusal_of (read_pair gold gate) options lent

-- naming this opens them all
unfoldable pub all : Unit {0}
unfolding on_gate with_gate with_gold read_pair check_refusal_of check_refusal inputs_differ outputs_differ name_or name_at domain_of same_edge same_domain all_in many_domains domain domains_differ interface_fault no_reset no_reset_at resets_fault initial_fault nodes_per_cycle proof_nodes trace_length too_short check_fault all_bits bad_claim replay_fault Options.all Validate.all
all = tt
