-- The words of `Promises` that `model` does not have: which designs are compared and linked, what a give-up is, which queries are asked and what they learn, what a give-up has proved, which cycle is the earliest to differ, and what a call leaves. Definitions only, over `model` alone. Assumes nothing.
use Rattle.std.specs.Prelude.{ℕ, suc, ◌+◌, ◌-◌, ◌*◌, ◌≤◌, ◌<◌, ◌≡◌, ◌≢◌, ◌⊎◌, Bool, true, false, cond, length, get_or, drop, eqb, ltb, Float}
use Rattle.std.specs.Bool.{xor}
use mathlib.Core.List.{List, [], ◌∷◌, ◌++◌, Memᴰ}
use Rattle.std.proofs.Math.Option.{Option, none, some}
use Rattle.std.proofs.Math.ListN.{get_elem?}
use Rattle.model.specs.Answers.{Refusal, accepted, Status, status_number, Asked, CheckAnswer, refused_answer}
use Rattle.model.specs.Answers as Answers
use Rattle.model.specs.Lists.{snoc}
use Rattle.model.specs.Options.{Options, to_depth, first_query}
use Rattle.model.specs.Names.{Name, member_name, names_of}
use Rattle.model.specs.Netlist.{Node, Input, Register, Design, inputs, outputs, input_count, input_numbers}
use Rattle.model.specs.Record.{got, number, name, listed_kind, nodes_from, length_fits}
use Rattle.model.specs.Validate.{◌otherwise◌, refuse_if, nodes_fault, is_input_at, registers_fault, connection_fault, reset_fault, clock_fault, clocks, data_numbers, validate}
use Rattle.model.specs.Run.{StoredBits, InputSequence, bit_at, stored_at, outputs_at, initial_bits}
use Rattle.model.specs.Pair.{Lent, Domain, domain, interface_fault, initial_fault, proof_nodes, trace_length, too_short, all_bits, replay_fault, ReadPair, both, refused_pair, read_pair}
use Rattle.model.specs.Replay.{claim_bit, claim_inputs, differ_at, replays, replay}
use Rattle.model.specs.Induction.{Query1, Query2, Query3, Query4, Says, Begun, SameOutputs, Verdict, answered}
use Rattle.model.specs.Literal.{Literal}
use Rattle.model.specs.Aig.{Aig}
use Rattle.model.specs.Sat.{Clause, Solver, decision_level, conflict, propagate, Analysis, resolved, analyze, Answer, model, no_model, gave_up, out_of_fuel, searching, step, start, encode}
use Rattle.model.specs.Sat as Sat
use Rattle.model.specs.Equivalence.{Problem, Query, base_counterexample, base_preserves_named_state, induction_closes, ask, Outcome, largest_learned}
use Rattle.model.specs.Equivalence as Equivalence
use Rattle.model.specs.Check.{problem_of, check_designs, CheckOutcome, refused_check, accepted_check, check_pair, trace_after, cleared_after, check, verdict_says}

-- ---- refusals, and the numbers of a call

-- a refusal whose number is one of `first` to `last`
pub record Within (first last : ℕ) (r : Refusal) : Type 0 where
  pub low : first ≤ r.number
  pub high : r.number ≤ last

-- the first refusal of 7 to 15, the checks of a design before 30
unfoldable pub fault_to15 : Design → Option Refusal
fault_to15 d =
    nodes_fault 0 [] d.nodes
    otherwise registers_fault d.nodes 0 [] [] d.registers
    otherwise connection_fault d.registers 0 d.nodes
    otherwise reset_fault d.registers 0 d.nodes
    otherwise clock_fault d.nodes 0 d.registers

-- a refusal of one record, on either side: 1 to 15, or 30
pub data OfOne (r : Refusal) : Type 0 where
  of_fields : Within 1 15 r → OfOne r
  of_clock : r.number ≡ 30 → OfOne r

-- a refusal of a read: one of a record, on side 0
pub record OfRecord (r : Refusal) : Type 0 where
  pub own : OfOne r
  pub side : r.side ≡ 0

-- the record's bytes up to the kind byte of node m, at the place: length, version, name and count are in order, and the m nodes before it are read
pub record UpToKind (s : List ℕ) (m place : ℕ) : Type 0 where
  pub sized : length_fits s ≡ true
  pub version : get_or s 0 0 ≡ 1
  pub design_name : Name
  pub count_at : ℕ
  pub named : name s 5 ≡ got design_name count_at
  pub count : ℕ
  pub counted : number s count_at ≡ got count (count_at + 2)
  pub few : count ≤ 1024
  pub declared : m < count
  pub before : List Node
  pub nodes_before : nodes_from listed_kind m [] s (count_at + 2) ≡ got before place
  pub within : place < length s

-- a refusal of a check: one of a record, 16 to 24, or 36 with side and place 0
pub data OfCheck (r : Refusal) : Type 0 where
  of_either : OfOne r → OfCheck r
  of_list : Within 16 24 r → OfCheck r
  of_limit : r ≡ record { number = 36; side = 0; place = 0 } → OfCheck r

-- a refusal of a replay: one of a record, 18 to 22, or 25
pub data OfReplay (r : Refusal) : Type 0 where
  of_record : OfOne r → OfReplay r
  of_pair : Within 18 22 r → OfReplay r
  of_claim : r.number ≡ 25 → OfReplay r

-- the first refusal of a replay, of two records read
unfoldable pub replay_refusal_of : ReadPair → ℕ → List ℕ → Option Refusal
replay_refusal_of (refused_pair r) cycle claim = some r
replay_refusal_of (both gold gate) cycle claim = replay_fault gold gate cycle claim

-- the first refusal of a replay: of the pair's reading, else of 18 to 22 and 25
unfoldable pub replay_refusal : List ℕ → List ℕ → ℕ → List ℕ → Option Refusal
replay_refusal gold gate cycle claim = replay_refusal_of (read_pair gold gate) cycle claim

-- every check of two records and every replay is refused with these three numbers
pub record RefusedWith (a b : List ℕ) (r : Refusal) : Type 0 where
  pub checks : (o : Options) (trace words : List ℕ) (scores : List Float) → (check a b o trace words scores).answer ≡ refused_answer r
  pub replays : (cycle : ℕ) (claim : List ℕ) → replay a b cycle claim ≡ record { refusal = r; yes = false }

-- an accepted answer's number, status and depth
pub record Numbered (c : CheckAnswer) (status : Status) (d : ℕ) : Type 0 where
  pub number : c.number ≡ 0
  pub status_number_lem : c.status ≡ status_number status
  pub depth : c.depth ≡ d

-- the numbers that an accepted answer does not use are 0: side and place, the mismatch unless the status is 1, the query unless it is 3, and what is proved unless it is 3; the cycle is 0 where nothing is proved
pub record UnusedZero (c : CheckAnswer) : Type 0 where
  pub side : c.side ≡ 0
  pub place : c.place ≡ 0
  pub mismatch : c.status ≢ 1 → c.mismatch ≡ 0
  pub query : c.status ≢ 3 → c.query ≡ 0
  pub equal : c.status ≢ 3 → c.equal ≡ false
  pub through : c.equal ≡ false → c.through ≡ 0

-- the query that an answer says learned most
unfoldable pub learned_of : CheckAnswer → Asked
learned_of c = record { depth = c.learned_depth; query = c.learned_query; learned = c.learned }

-- through which cycle an answer says that outputs are proved equal
unfoldable pub proved_of : CheckAnswer → Option ℕ
proved_of c = cond c.equal (some c.through) none

-- the seven numbers of an answer that tell neither what was learned nor what is proved
pub record SevenNumbers : Type 0 where
  pub number : ℕ
  pub side : ℕ
  pub place : ℕ
  pub status : ℕ
  pub depth : ℕ
  pub mismatch : ℕ
  pub query : ℕ

-- those of an answer
unfoldable pub seven_of : CheckAnswer → SevenNumbers
seven_of c =
    record { number = c.number; side = c.side; place = c.place; status = c.status; depth = c.depth; mismatch = c.mismatch; query = c.query }

-- of an accepted check
unfoldable pub accepted_seven : ℕ → ℕ → ℕ → ℕ → SevenNumbers
accepted_seven status depth mismatch query =
    record { number = 0; side = 0; place = 0; status = status; depth = depth; mismatch = mismatch; query = query }

-- of a verdict
unfoldable pub verdict_seven : Equivalence.Verdict → SevenNumbers
verdict_seven (Equivalence.Equivalent d) = accepted_seven 0 d 0 0
verdict_seven (Equivalence.NotEquivalent d m bytes) = accepted_seven 1 d m 0
verdict_seven (Equivalence.Inconclusive d) = accepted_seven 2 d 0 0
verdict_seven (Equivalence.GaveUp d q) = accepted_seven 3 d 0 q
verdict_seven Equivalence.OutOfFuel = accepted_seven 4 0 0 0

-- of an outcome: of its refusal or of its verdict, and of no query's total
unfoldable pub outcome_seven : CheckOutcome → SevenNumbers
outcome_seven (refused_check r) =
    record { number = r.number; side = r.side; place = r.place; status = 0; depth = 0; mismatch = 0; query = 0 }
outcome_seven (accepted_check o) = verdict_seven o.verdict

-- the query that learned most: of no query where the check is refused
unfoldable pub outcome_learned : CheckOutcome → Asked
outcome_learned (refused_check r) = record { depth = 0; query = 0; learned = 0 }
outcome_learned (accepted_check o) = largest_learned o.asked

-- the numbers of a call, but for what is proved, and what it leaves in each lent buffer are those of an outcome
pub record AsOutcome (outcome : CheckOutcome) (a b : List ℕ) (o : Options) (trace words : List ℕ) (scores : List Float) : Type 0 where
  pub seven : seven_of (check a b o trace words scores).answer ≡ outcome_seven outcome
  pub learned : learned_of (check a b o trace words scores).answer ≡ outcome_learned outcome
  pub traced : (check a b o trace words scores).trace ≡ trace_after outcome trace
  pub words_left : (check a b o trace words scores).words ≡ cleared_after 0 outcome words
  pub scores_left : (check a b o trace words scores).scores ≡ cleared_after Sat.score_zero outcome scores

-- an accepted call: the designs of both records, and the status and depth that its numbers are; the status is what k-induction says unless it is GaveUp
pub record Called (a b : List ℕ) (o : Options) (trace words : List ℕ) (scores : List Float) : Type 0 where
  pub gold : Design
  pub gate : Design
  pub pair : read_pair a b ≡ both gold gate
  pub status : Status
  pub depth : ℕ
  pub numbered : Numbered (check a b o trace words scores).answer status depth
  pub says : status ≢ Answers.GaveUp → Says gold gate (initial_bits gold) (initial_bits gate) o.depth status depth

-- bytes written at the front of the trace buffer, which replay answers with yes at a mismatch that is at most the depth
pub record TraceLeft (a b : List ℕ) (o : Options) (trace words : List ℕ) (scores : List Float) : Type 0 where
  pub bytes : List ℕ
  pub fits : length bytes ≤ length trace
  pub written : (check a b o trace words scores).trace ≡ bytes ++ drop (length bytes) trace
  pub yes : replay a b (check a b o trace words scores).answer.mismatch bytes ≡ record { refusal = accepted; yes = true }
  pub early : (check a b o trace words scores).answer.mismatch ≤ (check a b o trace words scores).answer.depth

-- a call on two records answered number 0 and status 0, either of them as gold, under options and with buffers of its own
pub data CalledEquivalent (a b : List ℕ) : Type 0 where
  as_given : (o : Options) (trace words : List ℕ) (scores : List Float) → (check a b o trace words scores).answer.number ≡ 0 → (check a b o trace words scores).answer.status ≡ 0 → CalledEquivalent a b
  swapped : (o : Options) (trace words : List ℕ) (scores : List Float) → (check b a o trace words scores).answer.number ≡ 0 → (check b a o trace words scores).answer.status ≡ 0 → CalledEquivalent a b

-- ---- two designs, each from its own start bits

-- both designs are valid, with the same names of inputs and of outputs
pub record Comparable (gold gate : Design) : Type 0 where
  pub gold_valid : validate gold ≡ none
  pub gate_valid : validate gate ≡ none
  pub input_names : names_of (inputs gold) ≡ names_of (inputs gate)
  pub output_names : names_of (outputs gold) ≡ names_of (outputs gate)

-- what the check of two designs from their start bits says: a status and a depth
abbrev pub checked_designs : Options → Design → Design → StoredBits → StoredBits → Verdict
checked_designs o gold gate s t = verdict_says (check_designs o gold gate s t).verdict

-- the same is asked, in the same mode, under a limit that is as large or larger
pub record LargerLimit (o larger : Options) : Type 0 where
  pub depth : o.depth ≡ larger.depth
  pub limit : o.limit ≤ larger.limit
  pub earliest : o.earliest ≡ larger.earliest

-- options, in the mode of the earliest cycle or without it
unfoldable pub in_mode : Bool → Options → Options
in_mode earliest o = record { depth = o.depth; limit = o.limit; earliest = earliest }

-- ---- a check to a maximum depth alone, where a caller sets no limit

-- its first refusal: 16, 17, 18 to 24
unfoldable pub fault_to : Design → Design → ℕ → Lent → Option Refusal
fault_to gold gate D lent =
    refuse_if 16 0 0 (eqb D 0)
    otherwise refuse_if 17 0 0 (ltb 64 D)
    otherwise interface_fault gold gate
    otherwise initial_fault gold gate
    otherwise refuse_if 23 0 0 (ltb 65535 (proof_nodes gold gate D))
    otherwise refuse_if 24 0 0 (too_short gold D lent)

-- its outcome, of two records read
unfoldable pub outcome_to_of : ReadPair → ℕ → Lent → CheckOutcome
outcome_to_of (refused_pair r) D lent = refused_check r
outcome_to_of (both gold gate) D lent = check_pair (to_depth D) gold gate (fault_to gold gate D lent)

-- its outcome
unfoldable pub outcome_to : List ℕ → List ℕ → ℕ → Lent → CheckOutcome
outcome_to a b D lent = outcome_to_of (read_pair a b) D lent

-- both records are accepted, the maximum depth is 1 to 64, and the limit is above the largest
pub record OverLimit (a b : List ℕ) (o : Options) : Type 0 where
  pub gold : Design
  pub gate : Design
  pub pair : read_pair a b ≡ both gold gate
  pub low : 1 ≤ o.depth
  pub high : o.depth ≤ 64
  pub above : 262144 < o.limit

-- ---- links of a chain

-- two begun designs are comparable, and were checked with the verdict Equivalent, either of them as gold, under options of the check's own
pub data Linked (a b : Begun) : Type 0 where
  gold_first_lem : Comparable a.design b.design → (o : Options) (d : ℕ) → checked_designs o a.design b.design a.start b.start ≡ answered Answers.Equivalent d → Linked a b
  gate_first_lem : Comparable a.design b.design → (o : Options) (d : ℕ) → checked_designs o b.design a.design b.start a.start ≡ answered Answers.Equivalent d → Linked a b

-- what holds of any two begun designs of a chain, whichever is named first: they are comparable, show the same outputs, and no check says NotEquivalent
pub record JoinedDesigns (a b : Begun) : Type 0 where
  pub comparable : Comparable a.design b.design
  pub same : SameOutputs a b
  pub never : (o : Options) (d : ℕ) → checked_designs o a.design b.design a.start b.start ≢ answered Answers.NotEquivalent d

-- ---- the clock

-- node k is read: by a node, or as the data, enable or reset of a register
pub data ReadAt (d : Design) (k : ℕ) : Type 0 where
  by_node : (n : Node) → Memᴰ n d.nodes → Memᴰ k (input_numbers n) → ReadAt d k
  by_register : (r : Register) → Memᴰ r d.registers → Memᴰ k (data_numbers r) → ReadAt d k

-- node k is an Input that clocks one of the design's registers, and is read
pub record ClockReadAt (d : Design) (k : ℕ) : Type 0 where
  pub input : is_input_at (get_elem? d.nodes k) ≡ true
  pub register : Register
  pub held : Memᴰ register d.registers
  pub clocked : register.clock ≡ k
  pub reading : ReadAt d k

-- and no node before it is one
pub record LowestClockRead (d : Design) (k : ℕ) : Type 0 where
  pub here : ClockReadAt d k
  pub lowest : (j : ℕ) → j < k → ClockReadAt d j → ⊥

-- two input sequences that give every Input that clocks none of the design's registers the same bits, in each cycle through the last
pub record AlikeButClocks (d : Design) (last : ℕ) (ins others : InputSequence) : Type 0 where
  pub same : (c k : ℕ) (n : Name) → c ≤ last → get_elem? d.nodes k ≡ some (Input n) → clocks k d.registers ≡ false → ins c n ≡ others c n

-- the name of a clock domain's clock
unfoldable pub name_of_clock : Option Domain → Option Name
name_of_clock none = none
name_of_clock (some a) = some a.clock

-- the name of the clock of a design with one clock domain; none without registers
unfoldable pub clock_name : Design → Option Name
clock_name d = name_of_clock (domain d.nodes d.registers)

-- two input sequences that give every input but the clock the same bits, in each cycle through the last
pub record SameButClock (gold : Design) (last : ℕ) (ins others : InputSequence) : Type 0 where
  pub same : (c : ℕ) (n : Name) → c ≤ last → member_name n (names_of (inputs gold)) ≡ true → clock_name gold ≢ some n → ins c n ≡ others c n

-- both designs show the same outputs in each cycle through the last, and hold the same stored bits up to the cycle after it
pub record SameRuns (gold gate : Design) (s t : StoredBits) (last : ℕ) (ins others : InputSequence) : Type 0 where
  pub gold_outputs : (c : ℕ) → c ≤ last → outputs_at gold s ins c ≡ outputs_at gold s others c
  pub gate_outputs : (c : ℕ) → c ≤ last → outputs_at gate t ins c ≡ outputs_at gate t others c
  pub gold_stored : (c : ℕ) → c ≤ suc last → stored_at gold s ins c ≡ stored_at gold s others c
  pub gate_stored : (c : ℕ) → c ≤ suc last → stored_at gate t ins c ≡ stored_at gate t others c

-- two claims that differ in the clock's bits alone: as long, of bytes 0 and 1, with the same bit of every other input in each cycle through the claimed one, and the same marks
pub record SameClaim (gold : Design) (cycle : ℕ) (claim other : List ℕ) : Type 0 where
  pub as_long : length claim ≡ length other
  pub bits : all_bits claim ≡ true
  pub other_bits : all_bits other ≡ true
  pub inputs_same : SameButClock gold cycle (claim_inputs gold claim) (claim_inputs gold other)
  pub marks : drop (suc cycle * input_count gold) claim ≡ drop (suc cycle * input_count gold) other

-- ---- replay

-- a trace of cycles 0 to m, within depth d, that replays yes, with a byte, 0 or 1, for each input of each cycle and for each output
pub record TraceGood (gold gate : Design) (s t : StoredBits) (d m : ℕ) (bytes : List ℕ) : Type 0 where
  pub replay : replays gold gate s t m bytes ≡ true
  pub early : m ≤ d
  pub size : length bytes ≡ trace_length gold m
  pub bits : all_bits bytes ≡ true

-- a yes: agreement before, exactly the marked differences in the claimed cycle, and at least one
pub record Yes (gold gate : Design) (s t : StoredBits) (cycle : ℕ) (claim : List ℕ) : Type 0 where
  pub agree : (c : ℕ) → c < cycle → differ_at gold gate s t (claim_inputs gold claim) c ≡ false
  pub marked : (j : ℕ) → j < length (outputs_at gold s (claim_inputs gold claim) cycle) → xor (bit_at (outputs_at gold s (claim_inputs gold claim) cycle) j) (bit_at (outputs_at gate t (claim_inputs gold claim) cycle) j) ≡ claim_bit claim (suc cycle * input_count gold + j)
  pub differ : differ_at gold gate s t (claim_inputs gold claim) cycle ≡ true

-- ---- the search of a query

-- an answer that the limit and the rounds did not cut short
abbrev pub Settled : Answer → Type 0
Settled (model values n) = Unit {0}
Settled (no_model n) = Unit {0}
Settled (gave_up n) = ⊥
Settled (out_of_fuel n) = ⊥

-- the total of an answer
unfoldable pub answer_total : Answer → ℕ
answer_total (model values n) = n
answer_total (no_model n) = n
answer_total (gave_up n) = n
answer_total (out_of_fuel n) = n

-- the number of literals of all clauses
unfoldable pub literal_count : List Clause → ℕ
literal_count [] = 0
literal_count (c ∷ cs) = length c.literals + literal_count cs

-- the search of a query comes to this state
pub data Reached (limit : ℕ) (g : Aig) (assumptions : List Literal) : Solver → Type 0 where
  begun : {s : Solver} → start (encode g assumptions) ≡ searching s → Reached limit g assumptions s
  stepped : {s t : Solver} → Reached limit g assumptions s → step limit s ≡ searching t → Reached limit g assumptions t

-- propagation ends in a conflict above level 0, and the clause that `analyze` learns of it would bring the total above the limit
pub record Overflows (limit : ℕ) (s : Solver) : Type 0 where
  pub clause : ℕ
  pub after : Solver
  pub stopped : propagate s ≡ conflict clause after
  pub level : ℕ
  pub decided : decision_level after.assignment ≡ suc level
  pub analysis : Analysis
  pub pivot : Literal
  pub analyzed : analyze after clause ≡ resolved analysis pivot
  pub above : limit < s.learned + suc (length analysis.learned)

-- the search gives up in a state that it reaches, where the next clause would pass the limit; its total is k
pub record GivesUp (limit : ℕ) (g : Aig) (assumptions : List Literal) (k : ℕ) : Type 0 where
  pub state : Solver
  pub reached : Reached limit g assumptions state
  pub overflows : Overflows limit state
  pub total : state.learned ≡ k

-- ---- the whole check

-- the queries by depth and number: the four of depth d, and at depth 1 query 0, which is query 1 with depth 0
pub data QueryOf (p : Problem) : ℕ → ℕ → Query → Type 0 where
  query_0 : QueryOf p 1 0 (base_counterexample p 0)
  query_1 : {d : ℕ} → QueryOf p d 1 (base_counterexample p d)
  query_2 : {d : ℕ} → QueryOf p d 2 (base_preserves_named_state p d)
  query_3 : {d : ℕ} → QueryOf p d 3 (induction_closes p true d)
  query_4 : {d : ℕ} → QueryOf p d 4 (induction_closes p false d)

-- the question that a query of two designs asks, from their start bits
abbrev pub Asks : (gold gate : Design) (s t : StoredBits) (d k : ℕ) (q : Query) → QueryOf (problem_of gold gate s t) d k q → Type 0
Asks gold gate s t d k q query_0 = Query1 gold gate s t 0
Asks gold gate s t d k q query_1 = Query1 gold gate s t d
Asks gold gate s t d k q query_2 = Query2 gold gate s t d
Asks gold gate s t d k q query_3 = Query3 gold gate d
Asks gold gate s t d k q query_4 = Query4 gold gate d

-- the query has no model
abbrev pub NoModel : ℕ → Query → Type 0
NoModel limit q = (n : ℕ) × (ask limit q ≡ no_model n)

-- the query has a model
abbrev pub Model : ℕ → Query → Type 0
Model limit q = (values : List Bool) × (n : ℕ) × (ask limit q ≡ model values n)

-- the query's search comes to a conflict whose clause would bring its total above the limit
abbrev pub Exceeds : ℕ → Query → Type 0
Exceeds limit q = (n : ℕ) × GivesUp limit q.aig q.assumptions n

-- induction over the named states does not close at depth d: they can differ, or they are kept and query 3 has a model
abbrev pub NamedOpen : ℕ → Problem → ℕ → Type 0
NamedOpen limit p d =
    Model limit (base_preserves_named_state p d) ⊎ (NoModel limit (base_preserves_named_state p d) × Model limit (induction_closes p true d))

-- every query of depth d that is asked was answered without deciding
pub record Passed (limit : ℕ) (p : Problem) (d : ℕ) : Type 0 where
  pub first : NoModel limit (base_counterexample p d)
  pub named : NamedOpen limit p d
  pub last : Model limit (induction_closes p false d)

-- the earlier queries of depth d were answered without deciding, and this one exceeds the limit
pub data Stops (limit : ℕ) (p : Problem) (d : ℕ) : ℕ → Type 0 where
  at_query_1 : Exceeds limit (base_counterexample p d) → Stops limit p d 1
  at_query_2 : NoModel limit (base_counterexample p d) → Exceeds limit (base_preserves_named_state p d) → Stops limit p d 2
  at_query_3 : NoModel limit (base_counterexample p d) → NoModel limit (base_preserves_named_state p d) → Exceeds limit (induction_closes p true d) → Stops limit p d 3
  at_query_4 : NoModel limit (base_counterexample p d) → NamedOpen limit p d → Exceeds limit (induction_closes p false d) → Stops limit p d 4

-- in the mode of the earliest cycle query 0 has no model; without it there is none
abbrev pub Cycle0Passed : Bool → ℕ → Problem → Type 0
Cycle0Passed true limit p = NoModel limit (base_counterexample p 0)
Cycle0Passed false limit p = Unit {0}

-- the check gives up at depth d in query q: in the mode query 0 exceeds the limit; or it has no model, no depth before d decides, and there the check stops
pub data StopsAt (o : Options) (p : Problem) : ℕ → ℕ → Type 0 where
  at_query_0 : o.earliest ≡ true → 1 ≤ o.depth → Exceeds o.limit (base_counterexample p 0) → StopsAt o p 1 0
  at_depth_lem : {d q : ℕ} → 1 ≤ d → d ≤ o.depth → Cycle0Passed o.earliest o.limit p → ((e : ℕ) → 1 ≤ e → e < d → Passed o.limit p e) → Stops o.limit p d q → StopsAt o p d q

-- ---- the queries that a check asks, and what they learn

-- the search of a query ends with this answer in this state: before its first round, or in the round after a state that it reaches
pub data EndsIn (limit : ℕ) (g : Aig) (assumptions : List Literal) : Answer → Solver → Type 0 where
  at_start : {a : Answer} → start (encode g assumptions) ≡ Sat.answered a → EndsIn limit g assumptions a (encode g assumptions)
  in_round : {a : Answer} {s : Solver} → Reached limit g assumptions s → step limit s ≡ Sat.answered a → EndsIn limit g assumptions a s

-- what is told of a query asked to a maximum depth D: it is the query of that depth and number, and its total is that of the state in which its search ends, the sum of the lengths of the clauses learned, within the limit
pub record Told (limit : ℕ) (p : Problem) (D : ℕ) (a : Asked) : Type 0 where
  pub low : 1 ≤ a.depth
  pub high : a.depth ≤ D
  pub query : Query
  pub named : QueryOf p a.depth a.query query
  pub state : Solver
  pub ended : EndsIn limit query.aig query.assumptions (ask limit query) state
  pub total : state.learned ≡ a.learned
  pub sum : a.learned ≡ literal_count (drop (length (encode query.aig query.assumptions).clauses) state.clauses)
  pub within : a.learned ≤ limit

-- a query is asked before another: at a smaller depth, or at the same depth with a smaller number
unfoldable pub Sooner : Asked → Asked → Type 0
Sooner a b = (a.depth < b.depth) ⊎ ((a.depth ≡ b.depth) × (a.query < b.query))

-- of the queries asked this one has the largest total, and is the first that has it
pub record FirstLargest (asked : List Asked) (most : Asked) : Type 0 where
  pub before : List Asked
  pub after : List Asked
  pub stands : asked ≡ before ++ (most ∷ after)
  pub less : (a : Asked) → Memᴰ a before → a.learned < most.learned
  pub no_more : (a : Asked) → Memᴰ a after → a.learned ≤ most.learned

-- the last query asked is query q of depth d, its total is within the limit, and the clause that it would learn next is not
pub record LastGivesUp (limit : ℕ) (p : Problem) (asked : List Asked) (d q : ℕ) : Type 0 where
  pub before : List Asked
  pub total : ℕ
  pub last : asked ≡ snoc before (record { depth = d; query = q; learned = total })
  pub query : Query
  pub named : QueryOf p d q query
  pub gives_up : GivesUp limit query.aig query.assumptions total
  pub within : total ≤ limit

-- ---- what a check that gives up has proved

-- in no cycle up to this one do outputs differ, whatever the inputs
abbrev pub EqualThrough : Design → Design → StoredBits → StoredBits → ℕ → Type 0
EqualThrough gold gate s t through = (ins : InputSequence) (c : ℕ) → c ≤ through → differ_at gold gate s t ins c ≡ false

-- the cycle by the place of the give-up: after query 1 its depth, in query 1 the depth before it, and none in the first query of depth 1, which in the mode of the earliest cycle is query 0
unfoldable pub proved_by_place : Bool → ℕ → ℕ → Option ℕ
proved_by_place earliest d q = cond (ltb 1 q) (some d) (cond (ltb 1 d) (some (d - 1)) (cond (ltb (first_query earliest) q) (some 0) none))

-- ---- the earliest cycle in which outputs differ

-- some input sequence makes outputs differ in this cycle
abbrev pub CanDiffer : Design → Design → StoredBits → StoredBits → ℕ → Type 0
CanDiffer gold gate s t c = (ins : InputSequence) × (differ_at gold gate s t ins c ≡ true)

-- it is the least over all input sequences: outputs can differ in it, and in no cycle before it
pub record Earliest (gold gate : Design) (s t : StoredBits) (m : ℕ) : Type 0 where
  pub differs : CanDiffer gold gate s t m
  pub alike : (ins : InputSequence) (c : ℕ) → c < m → differ_at gold gate s t ins c ≡ false

-- the mismatch of NotEquivalent at depth d: the least cycle, which is d or, at depth 1, cycle 0
pub record EarliestAt (gold gate : Design) (s t : StoredBits) (d m : ℕ) : Type 0 where
  pub least : Earliest gold gate s t m
  pub place : (m ≡ d) ⊎ ((d ≡ 1) × (m ≡ 0))

-- ---- a larger limit where both give up

-- the second cycle is not below the first; none is the lowest
abbrev pub NotBelow : Option ℕ → Option ℕ → Type 0
NotBelow none second = Unit {0}
NotBelow (some c) none = ⊥
NotBelow (some c) (some e) = c ≤ e

-- an outcome that gave up at depth d in query q, and one under a larger limit: it asked the same queries up to that one, and that one too, which learned no less
pub record GoesOn (gave larger : Outcome) (d q : ℕ) : Type 0 where
  pub before : List Asked
  pub after : List Asked
  pub total : ℕ
  pub larger_total : ℕ
  pub stopped : gave.asked ≡ snoc before (record { depth = d; query = q; learned = total })
  pub went_on : larger.asked ≡ before ++ (record { depth = d; query = q; learned = larger_total } ∷ after)
  pub no_less : total ≤ larger_total

-- of two calls that gave up the second got as far as the first: not in an earlier query, with no lower cycle proved, and having learned no less
pub record AsFar (first second : CheckAnswer) : Type 0 where
  pub place : (first.depth < second.depth) ⊎ ((first.depth ≡ second.depth) × (first.query ≤ second.query))
  pub proved : NotBelow (proved_of first) (proved_of second)
  pub learned : first.learned ≤ second.learned
