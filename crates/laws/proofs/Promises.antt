-- What is promised of the check, of replay, of the stepping call and of read, on one page and with nothing assumed. Every word here is of `model`, or of `Terms` and `StepTerms`, which add a few definitions over `model` alone. `checked` is the definition of the check of two records under a caller's options (maximum depth, limit of learned literals, mode of the earliest cycle), as a refusal or a status and a depth; `check` is the call, under the same options, with every number and every lent byte; `check_designs` is the check of two designs, each from its own start bits. Assumes nothing.
use Rattle.std.specs.Prelude.{ℕ, suc, ◌/◌, ◌≤◌, ◌<◌, ◌≡◌, ◌≢◌, ◌⊎◌, ◌↔◌, Bool, true, false, length, get_or, drop, replicate, Float}
use mathlib.Core.List.{List, [], ◌∷◌, ◌++◌, Memᴰ}
use Rattle.std.proofs.Math.Option.{none, some}
use Rattle.model.specs.Answers.{Refusal, accepted, Status, Equivalent, NotEquivalent, GaveUp, status_number, Asked, refused_answer, accepted_answer}
use Rattle.model.specs.Options.{Options, to_depth, first_query}
use Rattle.model.specs.Names.{Name, member_name, names_of}
use Rattle.model.specs.Netlist.{Node, Design, inputs, outputs, input_numbers}
use Rattle.model.specs.Record.{got, listed_kind, node, parsed, parse}
use Rattle.model.specs.Validate.{validate, read}
use Rattle.model.specs.Run.{StoredBits, InputSequence, stored_at, outputs_at, initial_bits}
use Rattle.model.specs.Pair.{Lent, both, read_pair, inputs_differ, outputs_differ, interface_fault, proof_nodes, check_refusal, replay_fault}
use Rattle.model.specs.Replay.{claim_inputs, differ_at, agree_before, replays, replay, steps_replay}
use Rattle.model.specs.Stepping.{LentPosition, step_fault, begin, step}
use Rattle.model.specs.Induction.{Query1, Says, Begun, initially, SameOutputs, Chain, answered, Refuses, Sound, Checked, Joined, SwapLaw, ChainLaw, SelfLaw}
use Rattle.model.specs.Literal.{Literal}
use Rattle.model.specs.Aig.{Aig, evaluate, aig_node_values}
use Rattle.model.specs.Sat.{Solver, score_zero, model, no_model, gave_up, out_of_fuel, encode, solve}
use Rattle.model.specs.Equivalence.{Problem, Query, base_counterexample, ask, undecided, not_equivalent_at, depths, largest_learned, proved_through}
use Rattle.model.specs.Equivalence as Search
use Rattle.model.specs.Check.{problem_of, check_designs, accepted_check, check_outcome, check_result, lent_of, check, checked}
use Rattle.laws.specs.Search.Limits.{give_up_needed}
use Rattle.laws.specs.Terms.{fault_to15, OfRecord, UpToKind, OfCheck, OfReplay, replay_refusal, RefusedWith, UnusedZero, learned_of, proved_of, seven_of, AsOutcome, Called, TraceLeft, CalledEquivalent, Comparable, checked_designs, LargerLimit, in_mode, outcome_to, OverLimit, Linked, JoinedDesigns, ClockReadAt, LowestClockRead, AlikeButClocks, SameButClock, SameRuns, SameClaim, TraceGood, Yes, Settled, answer_total, literal_count, Reached, GivesUp, QueryOf, Asks, StopsAt, Told, Sooner, FirstLargest, LastGivesUp, EqualThrough, proved_by_place, CanDiffer, Earliest, EarliestAt, GoesOn, AsFar}
use Rattle.laws.specs.StepTerms.{begin_refusal, step_refusal, OfBegin, OfStep, after_begin, step_answer, after_steps, run_position, held_at, moved_from, BytesKept, SameBits}
use Rattle.laws.specs.Record.KindBytes.{node-counted, unlisted-refused}
use Rattle.laws.specs.Record.ClockRead.{clock-refused, reads_no-clock}
use Rattle.laws.specs.ClockRun.{stored_same, run-outputs-same}
use Rattle.laws.specs.Induction.Chain.{chain_outputs}
use Rattle.laws.specs.Induction.Pairs.{comparable}
use Rattle.laws.specs.Check.Call.{check-refuses, outcome-is, check-refused, check-cleared}
use Rattle.laws.specs.Check.Self.{designs_self, check-self-depth, check-self}
use Rattle.laws.proofs.Check.Designs.{designs_sound, designs_said, designs_find, designs_equivalent, designs_trace, designs_swap, designs_chain}
use Rattle.laws.proofs.Check.Records.{check_sound, check_said, check-finds, check-equivalent, check-replays, check_swap, check_chain}
use Rattle.laws.proofs.Check.Ending.{designs_answer, check-answers}
use Rattle.laws.proofs.Check.LargerLimit.{designs_larger, check_larger, result_larger, call_larger}
use Rattle.laws.proofs.Check.GoingOn.{designs_go_on, call_as_far}
use Rattle.laws.proofs.Check.Earliest.{designs_deep, designs_earliest, call-deep, call-earliest, call-no_smaller, modes_refuse, designs_agree, call_agrees, designs_keep, call-keeps, designs_cycle_0, designs_depth_1, call-cycle_0, designs_without, designs_first-decides}
use Rattle.laws.specs.Check.Refusals.{check-within, replay-within, begin-within, step-within}
use Rattle.laws.proofs.Check.Limited.{over_limit, above-refused, refuse-alike, call_as_none}
use Rattle.laws.specs.Check.Reading.{read-zero, read-answers, gold-refused, gate-refused}
use Rattle.laws.specs.Replay.{steps_replay_lem, agree_every, every_agree}
use Rattle.laws.specs.Stepping.{begin-zero, step-zero, begin-refuses, step-refuses, steps_run, steps_no, steps_answer, step_past, step_runs, begin-kept, step_kept, step-alike}
use Rattle.laws.proofs.Check.Clock.{runs_same, differ_same, replay-same, step_same, check-replays-clock}
use Rattle.laws.specs.Check.Replaying.{replay_rule, replay-refused-with, replay-zero, inputs_compared, outputs_compared}
use Rattle.laws.proofs.Check.Queries.{query-ends, query_refutes, query_evaluates, query_gives_up, query-total, no-model-no, model-yes, query-size, query-fits}
use Rattle.laws.proofs.Check.GiveUp.{designs_give_up, designs_last, call_gives_up}
use Rattle.laws.proofs.Check.Asked.{designs_first, designs_ordered, designs_told}
use Rattle.laws.proofs.Check.Learned.{designs_largest, call_largest, call-within, call-nothing, call_as_outcome}
use Rattle.laws.proofs.Check.Proved.{designs_proved, designs_place, call-proved, call-beyond, call-found-beyond, call-place, call-proved-nothing}
use Rattle.laws.proofs.Check.Numbers.{called, call-checked, unused_zero, trace-left, trace-kept}
use Rattle.laws.proofs.Check.Demand3.{number-zero, call_joins, call_joins_back, call-never, calls_join, calls_never, call_swap, call_swap_refused, call-self, call-self-idle}

-- ==== P1, demand 1: a pair of records of any content and length comes back with a numbered refusal or a verdict

-- refused exactly where one of the specification's refusals applies, with the first that does
pub refused_exactly : Refuses checked
refused_exactly = check-refuses

-- where none applies, a status and a depth are answered: no search is left unfinished
pub else_answered : (a b : List ℕ) (o : Options) (lent : Lent) → check_refusal a b o lent ≡ none → (status : Status) × (d : ℕ) × (checked a b o lent ≡ answered status d)
else_answered = check-answers

-- every refusal of a check has a number from 1 to 24, or 30, or is 36 with side and place 0
pub refusal-numbered : (a b : List ℕ) (o : Options) (lent : Lent) (r : Refusal) → check_refusal a b o lent ≡ some r → OfCheck r
refusal-numbered = check-within

-- so the call answers number 0 exactly where no refusal applies
pub number-zero_exactly : (a b : List ℕ) (o : Options) (trace words : List ℕ) (scores : List Float)
    → ((check a b o trace words scores).answer.number ≡ 0) ↔ (check_refusal a b o (lent_of trace words scores) ≡ none)
number-zero_exactly = number-zero

-- the call read answers number 0 exactly where the bytes are parsed to a design that no check refuses
pub read_accepts_exactly : (s : List ℕ) → ((read s).number ≡ 0) ↔ ((d : Design) × (parse s ≡ parsed d) × (validate d ≡ none))
read_accepts_exactly = read-zero

-- it answers three zeros, or a number from 1 to 15, or 30, on side 0
pub read-numbered : (s : List ℕ) → (read s ≡ accepted) ⊎ OfRecord (read s)
read-numbered = read-answers

-- a node that is read has a listed kind, and as many inputs as its kind byte divided by 16
pub kind_byte-counts : (ns : List Node) (n : Node) (s : List ℕ) (i j : ℕ) → node listed_kind ns s i ≡ got n j → (listed_kind (get_or s i 0) ≡ true) × (length (input_numbers n) ≡ get_or s i 0 / 16)
kind_byte-counts = node-counted

-- where a record is in order up to the kind byte of a node and that byte is not listed, read answers 4 at that byte, whatever stands behind it
pub unlisted_kind_refused : (s : List ℕ) (m place : ℕ) → UpToKind s m place → listed_kind (get_or s place 0) ≡ false → read s ≡ record { number = 4; side = 0; place = place }
unlisted_kind_refused = unlisted-refused

-- where read refuses gold's record, every check and every replay of the pair is refused with what it answers
pub gold-refused-first : (a b : List ℕ) → (read a).number ≢ 0 → RefusedWith a b (read a)
gold-refused-first = gold-refused

-- where it accepts gold's record and refuses gate's, they are refused with the number and place that it answers of gate's, on side 1
pub gate-refused-next : (a b : List ℕ) → (read a).number ≡ 0 → (read b).number ≢ 0 → RefusedWith a b (record { number = (read b).number; side = 1; place = (read b).place })
gate-refused-next = gate-refused

-- a refused call: the refusal's three numbers, the others 0, and every lent buffer as it was
pub refusal_leaves_memory : (gold gate : List ℕ) (o : Options) (trace words : List ℕ) (scores : List Float) (r : Refusal)
    → check_refusal gold gate o (lent_of trace words scores) ≡ some r
    → check gold gate o trace words scores
    ≡ record { answer = refused_answer r; trace = trace; words = words; scores = scores }
refusal_leaves_memory = check-refused

-- an accepted call: side and place are 0, the mismatch unless the status is 1, the query and what is proved unless it is 3
pub unused_numbers-zero : (a b : List ℕ) (o : Options) (trace words : List ℕ) (scores : List Float) → check_refusal a b o (lent_of trace words scores) ≡ none
    → UnusedZero (check a b o trace words scores).answer
unused_numbers-zero = unused_zero

-- an accepted call leaves words and scores zero over their whole length
pub acceptance_clears_memory : (gold gate : List ℕ) (o : Options) (trace words : List ℕ) (scores : List Float)
    → check_refusal gold gate o (lent_of trace words scores) ≡ none
    → ((check gold gate o trace words scores).words ≡ replicate (length words) 0)
    × ((check gold gate o trace words scores).scores ≡ replicate (length scores) score_zero)
acceptance_clears_memory = check-cleared

-- after status 1 the trace buffer begins with bytes that replay answers with yes at the mismatch answered, which is at most the depth answered, and all its other bytes stay
pub call_leaves_trace : (a b : List ℕ) (o : Options) (trace words : List ℕ) (scores : List Float) → check_refusal a b o (lent_of trace words scores) ≡ none
    → (check a b o trace words scores).answer.status ≡ 1 → TraceLeft a b o trace words scores
call_leaves_trace = trace-left

-- after any other status every byte of the trace buffer stays
pub call-keeps-trace : (a b : List ℕ) (o : Options) (trace words : List ℕ) (scores : List Float) → check_refusal a b o (lent_of trace words scores) ≡ none
    → (check a b o trace words scores).answer.status ≢ 1 → (check a b o trace words scores).trace ≡ trace
call-keeps-trace = trace-kept

-- refusals 18 and 19 compare the sets of names, whatever their order in the records
pub inputs_as_sets : (a b : List ℕ) (gold gate : Design) → read_pair a b ≡ both gold gate
    → (inputs_differ gold gate ≡ false) ↔ ((x : Name) → member_name x (names_of (inputs gold)) ≡ member_name x (names_of (inputs gate)))
inputs_as_sets = inputs_compared

-- the output names too
pub outputs_as_sets : (a b : List ℕ) (gold gate : Design) → read_pair a b ≡ both gold gate
    → (outputs_differ gold gate ≡ false) ↔ ((x : Name) → member_name x (names_of (outputs gold)) ≡ member_name x (names_of (outputs gate)))
outputs_as_sets = outputs_compared

-- ==== P2, demand 2: the verdict is what k-induction over the plain run of the two designs says

-- every status other than GaveUp, with its depth, is what k-induction says from the initial states
pub status-is_said : Sound checked
status-is_said = check_sound

-- and what k-induction says is answered, unless the check gives up
pub said_is-answered : (a b : List ℕ) (o : Options) (lent : Lent) (gold gate : Design) → check_refusal a b o lent ≡ none → read_pair a b ≡ both gold gate
    → (status : Status) (d : ℕ) → Says gold gate (initial_bits gold) (initial_bits gate) o.depth status d
    → (checked a b o lent ≡ answered status d) ⊎ ((e : ℕ) × (checked a b o lent ≡ answered GaveUp e))
said_is-answered = check_said

-- where the check does not give up, it says NotEquivalent exactly when some input sequence makes outputs differ in a cycle from 0 to the maximum depth
pub different_exactly : (a b : List ℕ) (o : Options) (lent : Lent) (status : Status) (d : ℕ) → checked a b o lent ≡ answered status d → status ≢ GaveUp
    → (gold gate : Design) → read_pair a b ≡ both gold gate → (status ≡ NotEquivalent) ↔ Query1 gold gate (initial_bits gold) (initial_bits gate) o.depth
different_exactly = check-finds

-- Equivalent: the outputs have the same names, and the same bits in every cycle of every input sequence, past any depth searched
pub equivalent-never-differs : (a b : List ℕ) (o : Options) (lent : Lent) (d : ℕ) → checked a b o lent ≡ answered Equivalent d
    → (gold gate : Design) → read_pair a b ≡ both gold gate → SameOutputs (initially gold) (initially gate)
equivalent-never-differs = check-equivalent

-- an accepted call answers number 0, with the status and the depth that k-induction says, or GaveUp
pub call-is_said : (a b : List ℕ) (o : Options) (trace words : List ℕ) (scores : List Float) → check_refusal a b o (lent_of trace words scores) ≡ none → Called a b o trace words scores
call-is_said = called

-- the numbers of an accepted call are what the laws above speak of
pub call-is-checked : (a b : List ℕ) (o : Options) (trace words : List ℕ) (scores : List Float) → check_refusal a b o (lent_of trace words scores) ≡ none
    → (status : Status) → (check a b o trace words scores).answer.status ≡ status_number status
    → checked a b o (lent_of trace words scores) ≡ answered status (check a b o trace words scores).answer.depth
call-is-checked = call-checked

-- behind it, of each query that the check asks: its search ends
pub search_ends : (limit : ℕ) (p : Problem) (d k : ℕ) (q : Query) → QueryOf p d k q → (n : ℕ) → ask limit q ≢ out_of_fuel n
search_ends = query-ends

-- no model: under every environment some assumption of the query is false
pub none_refutes : (limit : ℕ) (p : Problem) (d k : ℕ) (q : Query) → QueryOf p d k q → (n : ℕ) → ask limit q ≡ no_model n
    → (environment : ℕ → Bool) → ((i : ℕ) → i < length q.assumptions → evaluate (aig_node_values environment q.aig) (get_or q.assumptions i 0) ≡ true) → ⊥
none_refutes = query_refutes

-- a model: the values of the graph's nodes under an environment, every assumption true
pub model_evaluates : (limit : ℕ) (p : Problem) (d k : ℕ) (q : Query) → QueryOf p d k q → (values : List Bool) (n : ℕ) → ask limit q ≡ model values n
    → (environment : ℕ → Bool) × (values ≡ aig_node_values environment q.aig) × ((i : ℕ) → i < length q.assumptions → evaluate values (get_or q.assumptions i 0) ≡ true)
model_evaluates = query_evaluates

-- so, of comparable designs from any start bits, no model means that the answer to its question is no
pub none_means_no : (limit : ℕ) (gold gate : Design) → Comparable gold gate → (s t : StoredBits)
    → (d k : ℕ) (q : Query) (w : QueryOf (problem_of gold gate s t) d k q) (n : ℕ) → ask limit q ≡ no_model n → Asks gold gate s t d k q w → ⊥
none_means_no = no-model-no

-- and a model means yes
pub model_means_yes : (limit : ℕ) (gold gate : Design) → Comparable gold gate → (s t : StoredBits)
    → (d k : ℕ) (q : Query) (w : QueryOf (problem_of gold gate s t) d k q) (values : List Bool) (n : ℕ) → ask limit q ≡ model values n → Asks gold gate s t d k q w
model_means_yes = model-yes

-- ==== P3: GaveUp exactly by the counted steps

-- one query gives up, with total n, exactly where its search comes to a state of that total in which the next learned clause would bring the total above the limit
pub query_gives_up_exactly : (limit : ℕ) (p : Problem) (d k : ℕ) (q : Query) → QueryOf p d k q → (n : ℕ) → (ask limit q ≡ gave_up n) ↔ GivesUp limit q.aig q.assumptions n
query_gives_up_exactly = query_gives_up

-- the total is the sum of the lengths of the clauses learned so far, which stand after the original ones
pub total-is-sum : (limit : ℕ) (p : Problem) (d k : ℕ) (q : Query) → QueryOf p d k q → (s : Solver) → Reached limit q.aig q.assumptions s
    → s.learned ≡ literal_count (drop (length (encode q.aig q.assumptions).clauses) s.clauses)
total-is-sum = query-total

-- a whole check, from any start bits, names depth d and query q exactly where every earlier query of its order was answered without deciding and query q at depth d so exceeds the limit
pub check_gives_up_exactly : (o : Options) (gold gate : Design) (s t : StoredBits) (d q : ℕ)
    → ((check_designs o gold gate s t).verdict ≡ Search.GaveUp d q) ↔ StopsAt o (problem_of gold gate s t) d q
check_gives_up_exactly = designs_give_up

-- the same of the call: status 3, with that depth and that query, and the mismatch 0, whatever it learned and proved
pub call_gives_up_exactly : (a b : List ℕ) (o : Options) (trace words : List ℕ) (scores : List Float) (gold gate : Design)
    → check_refusal a b o (lent_of trace words scores) ≡ none → read_pair a b ≡ both gold gate
    → (d q : ℕ) → ((check a b o trace words scores).answer ≡ accepted_answer 3 d 0 q (learned_of (check a b o trace words scores).answer) (proved_of (check a b o trace words scores).answer)) ↔ StopsAt o (problem_of gold gate (initial_bits gold) (initial_bits gate)) d q
call_gives_up_exactly = call_gives_up

-- a larger limit, up to 262,144, changes no status and no depth but those of a give-up
pub larger_limit : (o larger : Options) → LargerLimit o larger → larger.limit ≤ 262144 → (a b : List ℕ) (lent : Lent) (status : Status) (d : ℕ) → checked a b o lent ≡ answered status d → status ≢ GaveUp
    → checked a b larger lent ≡ answered status d
larger_limit = check_larger

-- nor anything else that the call leaves: mismatch, query, what was learned, trace, words and scores
pub larger_limit_result : (o larger : Options) → LargerLimit o larger → larger.limit ≤ 262144 → (a b : List ℕ) (lent : Lent) (status : Status) (d : ℕ) → checked a b o lent ≡ answered status d → status ≢ GaveUp
    → (trace words : List ℕ) (scores : List Float) → check_result (check_outcome a b larger lent) trace words scores ≡ check_result (check_outcome a b o lent) trace words scores
larger_limit_result = result_larger

-- and a query gives up only where it has to: under any larger limit that settles it, it learns more literals than the limit
pub gives_up_only_above : (limit larger : ℕ) → limit ≤ larger → (g : Aig) (assumptions : List Literal) (k : ℕ) → solve limit g assumptions ≡ gave_up k
    → Settled (solve larger g assumptions) → limit < answer_total (solve larger g assumptions)
gives_up_only_above = give_up_needed

-- ==== what the queries of a check learn: how near it came to giving up

-- the first query asked is query 1 of depth 1, in the mode of the earliest cycle its query 0
pub first-is-asked : (o : Options) (gold gate : Design) (s t : StoredBits) → 1 ≤ o.depth
    → (n : ℕ) × (rest : List Asked) × ((check_designs o gold gate s t).asked ≡ record { depth = 1; query = first_query o.earliest; learned = n } ∷ rest)
first-is-asked = designs_first

-- each is asked before the one that stands after it
pub asked_in_order : (o : Options) (gold gate : Design) (s t : StoredBits) (before after : List Asked) (a b : Asked) → (check_designs o gold gate s t).asked ≡ before ++ (a ∷ b ∷ after) → Sooner a b
asked_in_order = designs_ordered

-- each is told with the total of literals that its search has learned at its end, by the same steps by which a query gives up
pub asked_are_told : (o : Options) (gold gate : Design) (s t : StoredBits) (a : Asked) → Memᴰ a (check_designs o gold gate s t).asked → Told o.limit (problem_of gold gate s t) o.depth a
asked_are_told = designs_told

-- the check gives up exactly in the last query asked, where its total is within the limit and the next learned clause would pass it: that clause is not counted
pub last_gives_up_exactly : (o : Options) (gold gate : Design) (s t : StoredBits) (d q : ℕ)
    → ((check_designs o gold gate s t).verdict ≡ Search.GaveUp d q) ↔ LastGivesUp o.limit (problem_of gold gate s t) (check_designs o gold gate s t).asked d q
last_gives_up_exactly = designs_last

-- the largest total over all queries asked, and the first that has it
pub largest_is-first : (o : Options) (gold gate : Design) (s t : StoredBits) → 1 ≤ o.depth
    → FirstLargest (check_designs o gold gate s t).asked (largest_learned (check_designs o gold gate s t).asked)
largest_is-first = designs_largest

-- an accepted call tells of that query, whatever its status
pub call_tells_largest : (a b : List ℕ) (o : Options) (trace words : List ℕ) (scores : List Float) (gold gate : Design)
    → check_refusal a b o (lent_of trace words scores) ≡ none → read_pair a b ≡ both gold gate
    → FirstLargest (check_designs o gold gate (initial_bits gold) (initial_bits gate)).asked (learned_of (check a b o trace words scores).answer)
call_tells_largest = call_largest

-- whose total is within the limit, and so at most 262,144
pub call-learned-within : (a b : List ℕ) (o : Options) (trace words : List ℕ) (scores : List Float)
    → ((check a b o trace words scores).answer.learned ≤ o.limit) × ((check a b o trace words scores).answer.learned ≤ 262144)
call-learned-within = call-within

-- where no query learned anything it tells 0, depth 1 and query 1, in the mode of the earliest cycle query 0
pub call-learned-nothing : (a b : List ℕ) (o : Options) (trace words : List ℕ) (scores : List Float) (gold gate : Design)
    → check_refusal a b o (lent_of trace words scores) ≡ none → read_pair a b ≡ both gold gate
    → ((x : Asked) → Memᴰ x (check_designs o gold gate (initial_bits gold) (initial_bits gate)).asked → x.learned ≡ 0)
    → learned_of (check a b o trace words scores).answer ≡ record { depth = 1; query = first_query o.earliest; learned = 0 }
call-learned-nothing = call-nothing

-- of any call, refused or not, the seven other numbers and every lent byte are those of its refusal or verdict alone, and what was learned is that of the queries asked
pub learned_changes_nothing : (a b : List ℕ) (o : Options) (trace words : List ℕ) (scores : List Float) → AsOutcome (check_outcome a b o (lent_of trace words scores)) a b o trace words scores
learned_changes_nothing = call_as_outcome

-- ==== the limit that a caller sets, and as far as a check got that gives up

-- 36, on side and place 0, is the refusal exactly where both records are accepted, the maximum depth is 1 to 64, and the limit is above 262,144
pub limit-refused_exactly : (a b : List ℕ) (o : Options) (lent : Lent) → (check_refusal a b o lent ≡ some (record { number = 36; side = 0; place = 0 })) ↔ OverLimit a b o
limit-refused_exactly = over_limit

-- so no check is accepted under a larger limit than 262,144
pub limit-above-refused : (a b : List ℕ) (o : Options) (lent : Lent) → 262144 < o.limit → check_refusal a b o lent ≢ none
limit-above-refused = above-refused

-- up to 262,144 the limit changes no refusal
pub limits_refuse-alike : (a b : List ℕ) (o other : Options) (lent : Lent) → o.depth ≡ other.depth → o.limit ≤ 262144 → other.limit ≤ 262144 → check_refusal a b o lent ≡ check_refusal a b other lent
limits_refuse-alike = refuse-alike

-- at 262,144 every number but what is proved, and every lent byte, is that of a check whose caller sets no limit
pub largest_limit_as_none : (a b : List ℕ) (D : ℕ) (trace words : List ℕ) (scores : List Float) → AsOutcome (outcome_to a b D (lent_of trace words scores)) a b (to_depth D) trace words scores
largest_limit_as_none = call_as_none

-- a check of comparable designs, from any start bits, that gives up having proved a cycle: outputs differ in no cycle up to it, whatever the inputs
pub proved-holds : (o : Options) (gold gate : Design) → Comparable gold gate → (s t : StoredBits) (through : ℕ)
    → proved_through (check_designs o gold gate s t).verdict (check_designs o gold gate s t).asked ≡ some through → EqualThrough gold gate s t through
proved-holds = designs_proved

-- the same of a call's numbers
pub call-proved-holds : (a b : List ℕ) (o : Options) (trace words : List ℕ) (scores : List Float) (gold gate : Design) → read_pair a b ≡ both gold gate
    → (check a b o trace words scores).answer.equal ≡ true → EqualThrough gold gate (initial_bits gold) (initial_bits gate) (check a b o trace words scores).answer.through
call-proved-holds = call-proved

-- so the first mismatch, if one exists, lies beyond it
pub mismatch_lies_beyond : (a b : List ℕ) (o : Options) (trace words : List ℕ) (scores : List Float) (gold gate : Design) → read_pair a b ≡ both gold gate
    → (check a b o trace words scores).answer.equal ≡ true
    → (ins : InputSequence) (c : ℕ) → differ_at gold gate (initial_bits gold) (initial_bits gate) ins c ≡ true → (check a b o trace words scores).answer.through < c
mismatch_lies_beyond = call-beyond

-- and so does the mismatch that a call under any other options answers
pub found_lies_beyond : (a b : List ℕ) (o : Options) (trace words : List ℕ) (scores : List Float) (other : Options) (t w : List ℕ) (s : List Float)
    → (check a b o trace words scores).answer.equal ≡ true → (check a b other t w s).answer.status ≡ 1
    → (check a b o trace words scores).answer.through < (check a b other t w s).answer.mismatch
found_lies_beyond = call-found-beyond

-- the cycle by the place of the give-up: after query 1 its depth, in query 1 the depth before it, and none in the first query asked, which in the mode of the earliest cycle is query 0
pub proved_by_place_lem : (o : Options) (gold gate : Design) (s t : StoredBits) (d q : ℕ) → (check_designs o gold gate s t).verdict ≡ Search.GaveUp d q
    → proved_through (check_designs o gold gate s t).verdict (check_designs o gold gate s t).asked ≡ proved_by_place o.earliest d q
proved_by_place_lem = designs_place

-- the same of a call's numbers
pub call-proved_by_place : (a b : List ℕ) (o : Options) (trace words : List ℕ) (scores : List Float) → (check a b o trace words scores).answer.status ≡ 3
    → proved_of (check a b o trace words scores).answer ≡ proved_by_place o.earliest (check a b o trace words scores).answer.depth (check a b o trace words scores).answer.query
call-proved_by_place = call-place

-- of a call that gives up nothing is proved exactly where no query was asked but the one that gave up
pub nothing-proved_exactly : (a b : List ℕ) (o : Options) (trace words : List ℕ) (scores : List Float) (gold gate : Design) → read_pair a b ≡ both gold gate
    → (check a b o trace words scores).answer.status ≡ 3
    → ((check a b o trace words scores).answer.equal ≡ false) ↔ ((x : Asked) × ((check_designs o gold gate (initial_bits gold) (initial_bits gate)).asked ≡ x ∷ []))
nothing-proved_exactly = call-proved-nothing

-- a larger limit, up to 262,144, keeps every number and every lent byte of a call, refused or not, that does not give up
pub larger_limit-keeps : (a b : List ℕ) (o larger : Options) → LargerLimit o larger → larger.limit ≤ 262144 → (trace words : List ℕ) (scores : List Float)
    → (check a b o trace words scores).answer.status ≢ 3 → check a b larger trace words scores ≡ check a b o trace words scores
larger_limit-keeps = call_larger

-- where a check gives up, a larger limit asks the same queries up to the one that gave up, and that one too, which learns no less
pub larger_limit_goes_on : (o larger : Options) → LargerLimit o larger → (gold gate : Design) (s t : StoredBits) (d q : ℕ) → (check_designs o gold gate s t).verdict ≡ Search.GaveUp d q
    → GoesOn (check_designs o gold gate s t) (check_designs larger gold gate s t) d q
larger_limit_goes_on = designs_go_on

-- so where both give up it never lowers the cycle proved, none being the lowest, nor stops in an earlier query, nor tells of less learned
pub larger_limit_gets_as_far : (a b : List ℕ) (o larger : Options) → LargerLimit o larger → (trace words : List ℕ) (scores : List Float) (t w : List ℕ) (s : List Float)
    → (check a b o trace words scores).answer.status ≡ 3 → (check a b larger t w s).answer.status ≡ 3 → AsFar (check a b o trace words scores).answer (check a b larger t w s).answer
larger_limit_gets_as_far = call_as_far

-- ==== the earliest cycle in which outputs differ

-- at depth 2 and above, in the mode of the earliest cycle or without it, the mismatch is the depth, and the least cycle over all input sequences in which outputs differ
pub deep-mismatch-is-least : (o : Options) (gold gate : Design) → Comparable gold gate → (s t : StoredBits) (d m : ℕ) (bytes : List ℕ)
    → (check_designs o gold gate s t).verdict ≡ Search.NotEquivalent d m bytes → 2 ≤ d → (m ≡ d) × Earliest gold gate s t m
deep-mismatch-is-least = designs_deep

-- in the mode it is the least at every depth: the depth, or at depth 1 cycle 0
pub mode_mismatch-is-least : (o : Options) → o.earliest ≡ true → (gold gate : Design) → Comparable gold gate → (s t : StoredBits) (d m : ℕ) (bytes : List ℕ)
    → (check_designs o gold gate s t).verdict ≡ Search.NotEquivalent d m bytes → EarliestAt gold gate s t d m
mode_mismatch-is-least = designs_earliest

-- the same of a call's numbers, at depth 2 and above
pub call-deep-is-least : (a b : List ℕ) (o : Options) (trace words : List ℕ) (scores : List Float) (gold gate : Design) → read_pair a b ≡ both gold gate
    → (check a b o trace words scores).answer.status ≡ 1 → 2 ≤ (check a b o trace words scores).answer.depth
    → ((check a b o trace words scores).answer.mismatch ≡ (check a b o trace words scores).answer.depth) × Earliest gold gate (initial_bits gold) (initial_bits gate) (check a b o trace words scores).answer.mismatch
call-deep-is-least = call-deep

-- and in the mode
pub call_mode_is-least : (a b : List ℕ) (o : Options) (trace words : List ℕ) (scores : List Float) (gold gate : Design) → o.earliest ≡ true → read_pair a b ≡ both gold gate
    → (check a b o trace words scores).answer.status ≡ 1
    → EarliestAt gold gate (initial_bits gold) (initial_bits gate) (check a b o trace words scores).answer.depth (check a b o trace words scores).answer.mismatch
call_mode_is-least = call-earliest

-- so no call on the same records, under any options, answers a smaller mismatch
pub no_smaller_mismatch : (a b : List ℕ) (o : Options) (trace words : List ℕ) (scores : List Float) (other : Options) (t w : List ℕ) (s : List Float) → o.earliest ≡ true
    → (check a b o trace words scores).answer.status ≡ 1 → (check a b other t w s).answer.status ≡ 1
    → (check a b o trace words scores).answer.mismatch ≤ (check a b other t w s).answer.mismatch
no_smaller_mismatch = call-no_smaller

-- in the mode, unless query 0 gives up, the mismatch 0 is answered exactly where some input sequence makes outputs differ in cycle 0
pub cycle_0_exactly : (o : Options) → o.earliest ≡ true → 1 ≤ o.depth → (gold gate : Design) → Comparable gold gate → (s t : StoredBits)
    → (check_designs o gold gate s t).verdict ≢ Search.GaveUp 1 0
    → ((d : ℕ) × (bytes : List ℕ) × ((check_designs o gold gate s t).verdict ≡ Search.NotEquivalent d 0 bytes)) ↔ CanDiffer gold gate s t 0
cycle_0_exactly = designs_cycle_0

-- in either mode it is of depth 1
pub cycle_0_at-depth_1 : (o : Options) (gold gate : Design) → Comparable gold gate → (s t : StoredBits) (d : ℕ) (bytes : List ℕ)
    → (check_designs o gold gate s t).verdict ≡ Search.NotEquivalent d 0 bytes → d ≡ 1
cycle_0_at-depth_1 = designs_depth_1

-- the same of a call's numbers
pub call-cycle_0_exactly : (a b : List ℕ) (o : Options) (trace words : List ℕ) (scores : List Float) (gold gate : Design) → o.earliest ≡ true
    → check_refusal a b o (lent_of trace words scores) ≡ none → read_pair a b ≡ both gold gate
    → ((check a b o trace words scores).answer.status ≡ 3 → (check a b o trace words scores).answer.query ≢ 0)
    → (((check a b o trace words scores).answer.status ≡ 1) × ((check a b o trace words scores).answer.mismatch ≡ 0)) ↔ CanDiffer gold gate (initial_bits gold) (initial_bits gate) 0
call-cycle_0_exactly = call-cycle_0

-- where query 0 has a model, the trace is that model's own, and no other query is asked
pub query_0_decides : (o : Options) → o.earliest ≡ true → 1 ≤ o.depth → (gold gate : Design) (s t : StoredBits) (values : List Bool) (n : ℕ)
    → ask o.limit (base_counterexample (problem_of gold gate s t) 0) ≡ model values n
    → check_designs o gold gate s t
    ≡ record { verdict = not_equivalent_at 1 values (base_counterexample (problem_of gold gate s t) 0).comparisons; asked = record { depth = 1; query = 0; learned = n } ∷ [] }
query_0_decides = designs_first-decides

-- the mode changes no refusal
pub modes_refuse-alike : (a b : List ℕ) (o : Options) (earliest : Bool) (lent : Lent) → check_refusal a b (in_mode earliest o) lent ≡ check_refusal a b o lent
modes_refuse-alike = modes_refuse

-- two checks to one depth, of any limits and modes, say the same status and depth where neither gives up
pub options_agree : (o other : Options) → o.depth ≡ other.depth → (gold gate : Design) → Comparable gold gate → (s t : StoredBits) (p q : Status) (d e : ℕ)
    → checked_designs o gold gate s t ≡ answered p d → checked_designs other gold gate s t ≡ answered q e → p ≢ GaveUp → q ≢ GaveUp → (p ≡ q) × (d ≡ e)
options_agree = designs_agree

-- the same of two calls
pub calls_agree : (a b : List ℕ) (o other : Options) → o.depth ≡ other.depth → (trace words : List ℕ) (scores : List Float) (t w : List ℕ) (s : List Float)
    → (check a b o trace words scores).answer.number ≡ 0 → (check a b other t w s).answer.number ≡ 0
    → (check a b o trace words scores).answer.status ≢ 3 → (check a b other t w s).answer.status ≢ 3
    → ((check a b o trace words scores).answer.status ≡ (check a b other t w s).answer.status) × ((check a b o trace words scores).answer.depth ≡ (check a b other t w s).answer.depth)
calls_agree = call_agrees

-- where outputs cannot differ in cycle 0, the verdict in the mode, mismatch and trace too, is that without it, unless query 0 gives up
pub mode_keeps-verdict : (o : Options) (gold gate : Design) → Comparable gold gate → (s t : StoredBits) → EqualThrough gold gate s t 0
    → ((check_designs (in_mode true o) gold gate s t).verdict ≡ (check_designs (in_mode false o) gold gate s t).verdict) ⊎ ((check_designs (in_mode true o) gold gate s t).verdict ≡ Search.GaveUp 1 0)
mode_keeps-verdict = designs_keep

-- the same of a call, refused or not: the seven numbers, and every byte of the trace buffer
pub mode_keeps-call : (a b : List ℕ) (o : Options) (trace words : List ℕ) (scores : List Float) (gold gate : Design) → read_pair a b ≡ both gold gate
    → EqualThrough gold gate (initial_bits gold) (initial_bits gate) 0
    → ((check a b (in_mode true o) trace words scores).answer.status ≡ 3 → (check a b (in_mode true o) trace words scores).answer.query ≢ 0)
    → (seven_of (check a b (in_mode true o) trace words scores).answer ≡ seven_of (check a b (in_mode false o) trace words scores).answer)
    × ((check a b (in_mode true o) trace words scores).trace ≡ (check a b (in_mode false o) trace words scores).trace)
mode_keeps-call = call-keeps

-- without the mode a check is the loop over depths alone
pub without_mode_as_ever : (o : Options) → o.earliest ≡ false → (gold gate : Design) (s t : StoredBits)
    → check_designs o gold gate s t ≡ depths o.limit (problem_of gold gate s t) o.depth 0 (undecided [])
without_mode_as_ever = designs_without

-- ==== P4 and P5, demand 3: lists of any length

-- lists of any length of two or more, neighbours checked Equivalent either way, each check with its own depth, limit, mode and memory: any two of the list show the same outputs in every cycle of every input sequence, and no check of them says NotEquivalent
pub chain_law : ChainLaw checked
chain_law = check_chain

-- in the call's numbers: a call that answers number 0 and status 0 joins its two records for the chain law
pub equivalent_joins : (a b : List ℕ) (o : Options) (trace words : List ℕ) (scores : List Float) → (check a b o trace words scores).answer.number ≡ 0
    → (check a b o trace words scores).answer.status ≡ 0 → Checked checked a b
equivalent_joins = call_joins

-- and the same two named the other way round
pub equivalent_joins_back : (a b : List ℕ) (o : Options) (trace words : List ℕ) (scores : List Float) → (check b a o trace words scores).answer.number ≡ 0
    → (check b a o trace words scores).answer.status ≡ 0 → Checked checked a b
equivalent_joins_back a b = call_joins_back b a

-- a call on any two records of a chain, if it answers number 0, does not answer status 1
pub chain_never_different : (a b : List ℕ) (o : Options) (trace words : List ℕ) (scores : List Float) → (check a b o trace words scores).answer.number ≡ 0
    → (l : List (List ℕ)) → Chain (Checked checked) l → Memᴰ a l → Memᴰ b l → (check a b o trace words scores).answer.status ≢ 1
chain_never_different = call-never

-- a chain of calls that answered number 0 and status 0, each on two neighbours given either way: any two of the list show the same outputs, and no check of them says NotEquivalent
pub calls_chain_law : (l : List (List ℕ)) → Chain CalledEquivalent l → (a b : List ℕ) → Memᴰ a l → Memᴰ b l → Joined checked a b
calls_chain_law = calls_join

-- and no call on them that answers number 0 answers status 1
pub calls_never_different : (a b : List ℕ) (o : Options) (trace words : List ℕ) (scores : List Float) → (check a b o trace words scores).answer.number ≡ 0
    → (l : List (List ℕ)) → Chain CalledEquivalent l → Memᴰ a l → Memᴰ b l → (check a b o trace words scores).answer.status ≢ 1
calls_never_different = calls_never

-- ==== P6 and P7, demand 3: swapped pairs

-- a swapped pair: the same status and depth where neither check gives up, and refused where the first is
pub swap_law : SwapLaw checked
swap_law = check_swap

-- calls on a pair and on the swapped pair, to one depth, with buffers of the same lengths: the same status and depth, unless one gives up
pub swap_keeps-numbers : (a b : List ℕ) (o : Options) (t w : List ℕ) (s : List Float) (t' w' : List ℕ) (s' : List Float) → lent_of t' w' s' ≡ lent_of t w s
    → (check a b o t w s).answer.number ≡ 0 → (check b a o t' w' s').answer.number ≡ 0
    → (check a b o t w s).answer.status ≢ 3 → (check b a o t' w' s').answer.status ≢ 3
    → ((check a b o t w s).answer.status ≡ (check b a o t' w' s').answer.status) × ((check a b o t w s).answer.depth ≡ (check b a o t' w' s').answer.depth)
swap_keeps-numbers = call_swap

-- and where one is not refused, the other is not
pub swap_keeps-refusal : (a b : List ℕ) (o : Options) (t w : List ℕ) (s : List Float) (t' w' : List ℕ) (s' : List Float) → lent_of t' w' s' ≡ lent_of t w s
    → (check b a o t' w' s').answer.number ≡ 0 → (check a b o t w s).answer.number ≡ 0
swap_keeps-refusal = call_swap_refused

-- ==== P8, demand 3: a design against itself

-- a record against itself, where no refusal applies: Equivalent at depth 1
pub self_law : (a : List ℕ) (o : Options) (lent : Lent) → check_refusal a a o lent ≡ none → checked a a o lent ≡ answered Equivalent 1
self_law = check-self-depth

-- so whatever a check of a record against itself answers is that
pub call-self_law : SelfLaw checked
call-self_law = check-self

-- a record against itself, not refused: status 0 at depth 1
pub self-is-equivalent : (a : List ℕ) (o : Options) (t w : List ℕ) (s : List Float) → (check a a o t w s).answer.number ≡ 0
    → ((check a a o t w s).answer.status ≡ 0) × ((check a a o t w s).answer.depth ≡ 1)
self-is-equivalent = call-self

-- and nothing learned
pub self_learns_nothing : (a : List ℕ) (o : Options) (t w : List ℕ) (s : List Float) → (check a a o t w s).answer.number ≡ 0
    → learned_of (check a a o t w s).answer ≡ record { depth = 1; query = first_query o.earliest; learned = 0 }
self_learns_nothing = call-self-idle

-- ==== P9: replay

-- refused exactly where the pair's reading or one of 18 to 22 and 25 refuses, with the first that does and the answer no
pub replay-refused_exactly : (a b : List ℕ) (cycle : ℕ) (claim : List ℕ) (r : Refusal)
    → (replay_refusal a b cycle claim ≡ some r) ↔ ((replay a b cycle claim ≡ record { refusal = r; yes = false }) × (r.number ≢ 0))
replay-refused_exactly = replay-refused-with

-- so it answers number 0 exactly where none of these applies
pub replay-zero_exactly : (a b : List ℕ) (cycle : ℕ) (claim : List ℕ) → ((replay a b cycle claim).refusal.number ≡ 0) ↔ (replay_refusal a b cycle claim ≡ none)
replay-zero_exactly = replay-zero

-- every refusal of a replay has a number from 1 to 15 or 18 to 22, or 25 or 30
pub replay-numbered : (a b : List ℕ) (cycle : ℕ) (claim : List ℕ) (r : Refusal) → replay_refusal a b cycle claim ≡ some r → OfReplay r
replay-numbered = replay-within

-- a replay that is not refused says yes exactly where the outputs agree in every earlier cycle and in the claimed one differ in exactly the marked outputs, at least one
pub replay-says-yes_exactly : (a b : List ℕ) (cycle : ℕ) (claim : List ℕ) (gold gate : Design) → read_pair a b ≡ both gold gate → replay_fault gold gate cycle claim ≡ none
    → ((replay a b cycle claim).yes ≡ true) ↔ Yes gold gate (initial_bits gold) (initial_bits gate) cycle claim
replay-says-yes_exactly = replay_rule

-- the trace of NotEquivalent is not refused by replay, and the answer is yes
pub trace-replays : (a b : List ℕ) (o : Options) (lent : Lent) (gold gate : Design) (d m : ℕ) (bytes : List ℕ) → check_refusal a b o lent ≡ none → read_pair a b ≡ both gold gate
    → (check_designs o gold gate (initial_bits gold) (initial_bits gate)).verdict ≡ Search.NotEquivalent d m bytes → replay a b m bytes ≡ record { refusal = accepted; yes = true }
trace-replays = check-replays

-- ==== P10 and P13: steps, and the size of the graphs

-- replay stepped to the claimed cycle from the initial position gives replay's answer
pub steps_are_replay : (gold gate : Design) (s t : StoredBits) (cycle : ℕ) (claim : List ℕ) → steps_replay gold gate s t cycle claim ≡ replays gold gate s t cycle claim
steps_are_replay = steps_replay_lem

-- where no refusal applies, 23 among them, the graph of every query up to the maximum depth, from any start bits, has at most 65,535 nodes
pub graphs_fit : (a b : List ℕ) (o : Options) (lent : Lent) (gold gate : Design) → check_refusal a b o lent ≡ none → read_pair a b ≡ both gold gate
    → (s t : StoredBits) (d k : ℕ) (q : Query) → QueryOf (problem_of gold gate s t) d k q → d ≤ o.depth → length q.aig ≤ 65535
graphs_fit = query-fits

-- ==== the stepping call: a replay position that the caller lends, with the stored bits of both sides

-- a begin answers number 0 exactly where none of its refusals applies
pub begin-number-zero_exactly : (a b : List ℕ) (p : LentPosition) (bits : List ℕ) → ((begin a b p bits).answer.number ≡ 0) ↔ (begin_refusal a b bits ≡ none)
begin-number-zero_exactly = begin-zero

-- and a step exactly where none of its own applies
pub step-number-zero_exactly : (a b : List ℕ) (cycle : ℕ) (claim : List ℕ) (p : LentPosition) (bits : List ℕ)
    → ((step a b cycle claim p bits).answer.refusal.number ≡ 0) ↔ (step_refusal a b cycle claim bits ≡ none)
step-number-zero_exactly = step-zero

-- every refusal of a begin has a number from 1 to 15 or 18 to 22, or 24 or 30
pub begin-numbered : (a b bits : List ℕ) (r : Refusal) → begin_refusal a b bits ≡ some r → OfBegin r
begin-numbered = begin-within

-- and every refusal of a step one of a replay's numbers, or 24
pub step-numbered : (a b : List ℕ) (cycle : ℕ) (claim bits : List ℕ) (r : Refusal) → step_refusal a b cycle claim bits ≡ some r → OfStep r
step-numbered = step-within

-- a refused begin: the first refusal of its list, and position and bits as they were
pub refused-begin_leaves_all : (a b : List ℕ) (p : LentPosition) (bits : List ℕ) (r : Refusal) → begin_refusal a b bits ≡ some r
    → begin a b p bits ≡ record { answer = r; position = p; bits = bits }
refused-begin_leaves_all = begin-refuses

-- a refused step: the same, and the answer no
pub refused-step_leaves_all : (a b : List ℕ) (cycle : ℕ) (claim : List ℕ) (p : LentPosition) (bits : List ℕ) (r : Refusal) → step_refusal a b cycle claim bits ≡ some r
    → step a b cycle claim p bits ≡ record { answer = record { refusal = r; yes = false }; position = p; bits = bits }
refused-step_leaves_all = step-refuses

-- from what begin leaves, n steps on a claim that replay does not refuse leave the position of the two runs at the start of cycle n, up to the claimed cycle and past it by one: the cycle, whether the outputs agreed before it, the stored bits of both sides, and all other bytes as they were lent to begin
pub steps_follow_the_runs : (a b : List ℕ) (cycle : ℕ) (claim : List ℕ) (gold gate : Design) → read_pair a b ≡ both gold gate → replay_fault gold gate cycle claim ≡ none
    → (p : LentPosition) (bits : List ℕ) → 256 ≤ length bits → (n : ℕ) → n ≤ suc cycle
    → after_steps a b cycle claim n (after_begin a b p bits) ≡ held_at (run_position gold gate (initial_bits gold) (initial_bits gate) (claim_inputs gold claim) n) bits
steps_follow_the_runs = steps_run

-- they agreed before cycle n exactly where no output differs in an earlier cycle
pub agreed_exactly : (gold gate : Design) (s t : StoredBits) (ins : InputSequence) (n : ℕ) → (agree_before gold gate s t ins n ≡ true) ↔ ((c : ℕ) → c < n → differ_at gold gate s t ins c ≡ false)
agreed_exactly gold gate s t ins n = (agree_every gold gate s t ins n, every_agree gold gate s t ins n)

-- the step before the claimed cycle answers no
pub steps_answer-no-before : (a b : List ℕ) (cycle : ℕ) (claim : List ℕ) (gold gate : Design) → read_pair a b ≡ both gold gate → replay_fault gold gate cycle claim ≡ none
    → (p : LentPosition) (bits : List ℕ) → 256 ≤ length bits → (n : ℕ) → n < cycle
    → step_answer a b cycle claim (after_steps a b cycle claim n (after_begin a b p bits)) ≡ record { refusal = accepted; yes = false }
steps_answer-no-before = steps_no

-- the step at the claimed cycle answers what replay answers
pub steps_answer_as_replay : (a b : List ℕ) (cycle : ℕ) (claim : List ℕ) (gold gate : Design) → read_pair a b ≡ both gold gate → replay_fault gold gate cycle claim ≡ none
    → (p : LentPosition) (bits : List ℕ) → 256 ≤ length bits
    → step_answer a b cycle claim (after_steps a b cycle claim cycle (after_begin a b p bits)) ≡ replay a b cycle claim
steps_answer_as_replay = steps_answer

-- from any lent position and bits that are not refused: past the claimed cycle nothing changes and the answer is no
pub step-past-claim_changes_nothing : (a b : List ℕ) (cycle : ℕ) (claim : List ℕ) (gold gate : Design) → read_pair a b ≡ both gold gate
    → (p : LentPosition) (bits : List ℕ) → step_fault gold gate cycle claim bits ≡ none → cycle < p.cycle
    → step a b cycle claim p bits ≡ record { answer = record { refusal = accepted; yes = false }; position = p; bits = bits }
step-past-claim_changes_nothing = step_past

-- up to the claimed cycle both runs go on by one cycle from the stored bits lent, on the claim's inputs of the position's cycle
pub step_runs_one-cycle : (a b : List ℕ) (cycle : ℕ) (claim : List ℕ) (gold gate : Design) → read_pair a b ≡ both gold gate
    → (p : LentPosition) (bits : List ℕ) → step_fault gold gate cycle claim bits ≡ none → p.cycle ≤ cycle
    → step a b cycle claim p bits ≡ moved_from gold gate cycle claim p bits
step_runs_one-cycle = step_runs

-- a begin leaves every byte that no register has
pub begin-keeps-bytes : (a b : List ℕ) (gold gate : Design) → read_pair a b ≡ both gold gate → (p : LentPosition) (bits : List ℕ) → BytesKept gold gate bits (begin a b p bits).bits
begin-keeps-bytes = begin-kept

-- and so does a step
pub step-keeps-bytes : (a b : List ℕ) (gold gate : Design) → read_pair a b ≡ both gold gate → (p : LentPosition) (bits : List ℕ) (cycle : ℕ) (claim : List ℕ)
    → BytesKept gold gate bits (step a b cycle claim p bits).bits
step-keeps-bytes = step_kept

-- whose answer and position do not depend on such bytes
pub step_looks_at-registers : (a b : List ℕ) (gold gate : Design) → read_pair a b ≡ both gold gate → (p : LentPosition) (bits : List ℕ) (cycle : ℕ) (claim others : List ℕ) → SameBits gold gate bits others
    → ((step a b cycle claim p bits).answer ≡ (step a b cycle claim p others).answer) × ((step a b cycle claim p bits).position ≡ (step a b cycle claim p others).position)
step_looks_at-registers = step-alike

-- ==== the clock is no data

-- read answers 30 exactly where the bytes are parsed to a design that passes every check before it and has an Input that clocks one of its registers and is read; the place is the lowest such Input
pub clock-read-refused_exactly : (s : List ℕ) (k : ℕ)
    → (read s ≡ record { number = 30; side = 0; place = k }) ↔ ((d : Design) × (parse s ≡ parsed d) × (fault_to15 d ≡ none) × LowestClockRead d k)
clock-read-refused_exactly = clock-refused

-- no check refuses a design exactly where those before 30 do not and it reads none of its clocks
pub accepted_reads_no-clock : (d : Design) → (validate d ≡ none) ↔ ((fault_to15 d ≡ none) × ((k : ℕ) → ClockReadAt d k → ⊥))
accepted_reads_no-clock = reads_no-clock

-- two input sequences that differ at Inputs that clock its registers alone give a design the same outputs in every cycle, from any start bits
pub clock_changes_no-output : (d : Design) → validate d ≡ none → (start : StoredBits) (last : ℕ) (ins others : InputSequence) → AlikeButClocks d last ins others
    → (c : ℕ) → c ≤ last → outputs_at d start ins c ≡ outputs_at d start others c
clock_changes_no-output = run-outputs-same

-- and the same stored bits
pub clock_changes_no-stored-bit : (d : Design) → validate d ≡ none → (start : StoredBits) (last : ℕ) (ins others : InputSequence) → AlikeButClocks d last ins others
    → (c : ℕ) → c ≤ suc last → stored_at d start ins c ≡ stored_at d start others c
clock_changes_no-stored-bit = stored_same

-- of a pair that passes 18 to 21, and so has one clock by name: two input sequences that agree on all inputs but the clock give both sides the same run
pub clock_changes_no-run : (a b : List ℕ) (gold gate : Design) → read_pair a b ≡ both gold gate → interface_fault gold gate ≡ none → (last : ℕ) (ins others : InputSequence) → SameButClock gold last ins others
    → (s t : StoredBits) → SameRuns gold gate s t last ins others
clock_changes_no-run = runs_same

-- so that outputs differ in the same cycles: no verdict depends on the clock's bits
pub clock_changes_no_difference : (a b : List ℕ) (gold gate : Design) → read_pair a b ≡ both gold gate → interface_fault gold gate ≡ none → (last : ℕ) (ins others : InputSequence) → SameButClock gold last ins others
    → (s t : StoredBits) (c : ℕ) → c ≤ last → differ_at gold gate s t ins c ≡ differ_at gold gate s t others c
clock_changes_no_difference = differ_same

-- two claims that differ in the clock's bits alone have the same replay, refused or not
pub clock_changes_no-replay : (a b : List ℕ) (gold gate : Design) → read_pair a b ≡ both gold gate → (cycle : ℕ) (claim other : List ℕ) → SameClaim gold cycle claim other
    → replay a b cycle claim ≡ replay a b cycle other
clock_changes_no-replay = replay-same

-- and the same steps: the answer, the position and every byte after each
pub clock_changes_no-step : (a b : List ℕ) (gold gate : Design) → read_pair a b ≡ both gold gate → (cycle : ℕ) (claim other : List ℕ) → SameClaim gold cycle claim other
    → (p : LentPosition) (bits : List ℕ) → step a b cycle claim p bits ≡ step a b cycle other p bits
clock_changes_no-step = step_same

-- the trace of NotEquivalent replays yes with any bits of the clock in place of its own
pub trace-replays-on_any_clock : (a b : List ℕ) (o : Options) (lent : Lent) (gold gate : Design) (d m : ℕ) (bytes other : List ℕ) → check_refusal a b o lent ≡ none → read_pair a b ≡ both gold gate
    → (check_designs o gold gate (initial_bits gold) (initial_bits gate)).verdict ≡ Search.NotEquivalent d m bytes → SameClaim gold m bytes other → replay a b m other ≡ record { refusal = accepted; yes = true }
trace-replays-on_any_clock = check-replays-clock

-- ==== the check of two designs, each from its own start bits: the laws of two records are these at the initial bits

-- the designs of two records to which no refusal applies are comparable
pub accepted-comparable : (a b : List ℕ) (o : Options) (lent : Lent) (gold gate : Design) → check_refusal a b o lent ≡ none → read_pair a b ≡ both gold gate → Comparable gold gate
accepted-comparable = comparable

-- and the outcome of their check is that of the designs from the initial bits
pub outcome_of_designs : (a b : List ℕ) (o : Options) (lent : Lent) (gold gate : Design) → check_refusal a b o lent ≡ none → read_pair a b ≡ both gold gate
    → check_outcome a b o lent ≡ accepted_check (check_designs o gold gate (initial_bits gold) (initial_bits gate))
outcome_of_designs = outcome-is

-- a status and a depth are answered
pub designs_answered : (o : Options) (gold gate : Design) (s t : StoredBits) → (status : Status) × (d : ℕ) × (checked_designs o gold gate s t ≡ answered status d)
designs_answered = designs_answer

-- every status other than GaveUp, with its depth, is what k-induction says from the start bits
pub designs_status-is_said : (o : Options) (gold gate : Design) → Comparable gold gate → (s t : StoredBits) (status : Status) (d : ℕ)
    → checked_designs o gold gate s t ≡ answered status d → status ≢ GaveUp → Says gold gate s t o.depth status d
designs_status-is_said = designs_sound

-- and what k-induction says is answered, unless the check gives up
pub designs_said_is-answered : (o : Options) (gold gate : Design) → Comparable gold gate → (s t : StoredBits) (status : Status) (d : ℕ) → Says gold gate s t o.depth status d
    → (checked_designs o gold gate s t ≡ answered status d) ⊎ ((e : ℕ) × (checked_designs o gold gate s t ≡ answered GaveUp e))
designs_said_is-answered = designs_said

-- NotEquivalent exactly when some input sequence makes outputs differ in a cycle from 0 to the maximum depth, unless the check gives up
pub designs_different_exactly : (o : Options) (gold gate : Design) → Comparable gold gate → (s t : StoredBits) → 1 ≤ o.depth → (status : Status) (d : ℕ)
    → checked_designs o gold gate s t ≡ answered status d → status ≢ GaveUp → (status ≡ NotEquivalent) ↔ Query1 gold gate s t o.depth
designs_different_exactly = designs_find

-- Equivalent: the same output names, and the same output bits in every cycle of every input sequence
pub designs_equivalent-never-differ : (o : Options) (gold gate : Design) → Comparable gold gate → (s t : StoredBits) (d : ℕ)
    → checked_designs o gold gate s t ≡ answered Equivalent d → SameOutputs (record { design = gold; start = s }) (record { design = gate; start = t })
designs_equivalent-never-differ = designs_equivalent

-- the trace of NotEquivalent replays yes from the start bits
pub designs_trace-replays : (o : Options) (gold gate : Design) → Comparable gold gate → (s t : StoredBits) (d m : ℕ) (bytes : List ℕ)
    → (check_designs o gold gate s t).verdict ≡ Search.NotEquivalent d m bytes → (d ≤ o.depth) × TraceGood gold gate s t d m bytes
designs_trace-replays = designs_trace

-- a larger limit changes no verdict, trace and all, but a give-up, nor what any query learned
pub designs_larger_limit : (o larger : Options) → LargerLimit o larger → (gold gate : Design) (s t : StoredBits) (status : Status) (d : ℕ)
    → checked_designs o gold gate s t ≡ answered status d → status ≢ GaveUp → check_designs larger gold gate s t ≡ check_designs o gold gate s t
designs_larger_limit = designs_larger

-- the graph of a query of depth d has at most (d + 1) × F + R nodes
pub designs_graphs_bounded : (gold gate : Design) → Comparable gold gate → (s t : StoredBits) (d k : ℕ) (q : Query) → QueryOf (problem_of gold gate s t) d k q → length q.aig ≤ proof_nodes gold gate d
designs_graphs_bounded = query-size

-- swapped, each design with its own start bits: the same status and depth where neither check gives up
pub designs_swap_law : (o : Options) (gold gate : Design) → Comparable gold gate → (s t : StoredBits) (p q : Status) (d e : ℕ)
    → checked_designs o gold gate s t ≡ answered p d → checked_designs o gate gold t s ≡ answered q e → p ≢ GaveUp → q ≢ GaveUp → (p ≡ q) × (d ≡ e)
designs_swap_law = designs_swap

-- a valid design against itself, from the same start bits: Equivalent at depth 1
pub designs_self_law : (o : Options) (d : Design) (s : StoredBits) → validate d ≡ none → 1 ≤ o.depth → checked_designs o d d s s ≡ answered Equivalent 1
designs_self_law = designs_self

-- links of any kind that give the same outputs: any two of a chain show the same outputs
pub links_chain_law : (Link : Begun → Begun → Type 0) → ((a b : Begun) → Link a b → SameOutputs a b) → (l : List Begun) → Chain Link l
    → (a b : Begun) → Memᴰ a l → Memᴰ b l → SameOutputs a b
links_chain_law = chain_outputs

-- links that are checks, each under its own options: any two of a chain are comparable and show the same outputs, and no check of them, whichever is gold, says NotEquivalent
pub designs_chain_law : (l : List Begun) → Chain Linked l → (a b : Begun) → Memᴰ a l → Memᴰ b l → JoinedDesigns a b
designs_chain_law = designs_chain
