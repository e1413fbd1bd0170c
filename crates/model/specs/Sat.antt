-- The solver of sat.rs on lists. A solver literal is the number of its watch list, which is the graph's literal. Definitions only.
use Prim.Native.Nat.{Ordering}
use Prim.Native.Nat.{ℕ, zero, suc, ◌+◌, ◌-◌, ◌*◌, max, compare}
use Rattle.std.specs.Prelude.{Bool, true, false, not, ◌&&◌, ◌||◌, cond, List, [], ◌∷◌, ◌++◌, map, pos, negsuc, length, get_or, set, take, drop, replicate, eqb, leb, ltb, Float}
use Rattle.std.proofs.Math.Option.{Option, none, some}
use Rattle.std.proofs.Math.ListN.{get_elem?}
use Rattle.std.specs.Float.{fin, binary64}
use Rattle.std.specs.Float.Ieee.{lt}
use Rattle.std.specs.Float.Ieee as Ieee
use Rattle.model.specs.Literal.{Literal, node, inverted, negate}
use Rattle.model.specs.Lists.{snoc}
use Rattle.model.specs.Literal as Literals
use Rattle.model.specs.Lists as Lists
use Rattle.model.specs.Aig.{Node, Constant, Variable, And, Aig}

-- ---- the state

-- what a variable is assigned
pub data Value : Type 0 where
  False Unassigned True : Value

-- a clause and the places of its two watched literals
pub record Clause : Type 0 where
  pub literals : List Literal
  pub watched : ℕ × ℕ

-- the part of the solver that `enqueue` and `backtrack` change
pub record Assignment : Type 0 where
  pub assignments : List Value
  pub levels : List ℕ
  pub reasons : List (Option ℕ)
  pub phases : List Bool
  pub trail : List Literal
  pub trail_limits : List ℕ
  pub propagation_head : ℕ

-- the part of the solver that `bump_activity` changes
pub record Scores : Type 0 where
  pub activity : List Float
  pub activity_increment : Float

-- the solver, with the total of learned literals
pub record Solver : Type 0 where
  pub clauses : List Clause
  pub watches : List (List ℕ)
  pub assignment : Assignment
  pub scores : Scores
  pub inconsistent : Bool
  pub learned : ℕ

-- the solver with another assignment
unfoldable pub with_assignment : Solver → Assignment → Solver
with_assignment s t =
    record { clauses = s.clauses; watches = s.watches; assignment = t; scores = s.scores; inconsistent = s.inconsistent; learned = s.learned }

-- the solver with other watch lists
unfoldable pub with_watches : Solver → List (List ℕ) → Solver
with_watches s w =
    record { clauses = s.clauses; watches = w; assignment = s.assignment; scores = s.scores; inconsistent = s.inconsistent; learned = s.learned }

-- ---- values

-- a variable's value as its literal has it; the first argument: inverted
unfoldable pub literal_value : Bool → Value → Value
literal_value i Unassigned = Unassigned
literal_value true True = False
literal_value true False = True
literal_value false True = True
literal_value false False = False

-- the value of a literal
unfoldable pub value : Assignment → Literal → Value
value t l = literal_value (inverted l) (get_or t.assignments (node l) Unassigned)

-- the value of the variable that makes a literal true; the argument: inverted
unfoldable pub making_true : Bool → Value
making_true true = False
making_true false = True

-- the number of decisions made and not undone
unfoldable pub decision_level : Assignment → ℕ
decision_level t = length t.trail_limits

-- an unassigned literal made true
unfoldable pub assign : Assignment → Literal → Option ℕ → Assignment
assign t l reason =
    record {
      assignments = set t.assignments (node l) (making_true (inverted l));
      levels = set t.levels (node l) (decision_level t);
      reasons = set t.reasons (node l) reason;
      phases = set t.phases (node l) (not (inverted l));
      trail = snoc t.trail l;
      trail_limits = t.trail_limits;
      propagation_head = t.propagation_head;
    }

-- `enqueue` by the literal's value
unfoldable pub enqueue_valued : Assignment → Literal → Option ℕ → Value → Option Assignment
enqueue_valued t l reason True = some t
enqueue_valued t l reason False = none
enqueue_valued t l reason Unassigned = some (assign t l reason)

-- a literal made true with its reason; none where it is false
unfoldable pub enqueue : Assignment → Literal → Option ℕ → Option Assignment
enqueue t l reason = enqueue_valued t l reason (value t l)

-- ---- activity

-- 0.0
unfoldable pub score_zero : Float
score_zero = fin false 0 (pos 0)

-- 1.0
unfoldable pub score_one : Float
score_one = fin false 1 (pos 0)

-- 0.95 as an f64 has it
unfoldable pub decay : Float
decay = fin false 4278419646001971 (negsuc 51)

-- 1.0e100 as an f64 has it
unfoldable pub ceiling : Float
ceiling = fin false 5147557589468029 (pos 280)

-- 1.0e-100 as an f64 has it
unfoldable pub rescale_factor : Float
rescale_factor = fin false 492525077454931 (negsuc 380)

-- x added to the score of a variable
unfoldable pub add_score : List Float → ℕ → Float → List Float
add_score activity v x = set activity v (Ieee.add binary64 (get_or activity v score_zero) x)

-- all scores and the increment multiplied by 1.0e-100 where the test says so
unfoldable pub rescale_if : Bool → List Float → Float → Scores
rescale_if true activity increment =
    record { activity = map (λ x. Ieee.mul binary64 x rescale_factor) activity; activity_increment = Ieee.mul binary64 increment rescale_factor }
rescale_if false activity increment = record { activity = activity; activity_increment = increment }

-- the increment added to the score of a variable, and a rescale above the ceiling
unfoldable pub bump_activity : Scores → ℕ → Scores
bump_activity c v =
    let activity = add_score c.activity v c.activity_increment in
    rescale_if (lt ceiling (get_or activity v score_zero)) activity c.activity_increment

-- ---- clauses

-- a clause with no literal, for a number that no clause has
unfoldable pub empty_clause : Clause
empty_clause = record { literals = []; watched = (0, 0) }

-- a clause at the end of a literal's watch list
unfoldable pub push_watch : List (List ℕ) → Literal → ℕ → List (List ℕ)
push_watch w l id = set w l (snoc (get_or w l []) id)

-- a literal put into a list in strict order; nothing where it is there
unfoldable pub insert_literal : Literal → List Literal → List Literal
insert_literal x [] = x ∷ []
insert_literal x (y ∷ ys) = elim (compare x y) [ Ordering.lt ↦ x ∷ y ∷ ys | Ordering.eq ↦ y ∷ ys | Ordering.gt ↦ y ∷ insert_literal x ys ]

-- sort_by_key and dedup; x and its negation are told by `tautological`, so their order is of no effect
unfoldable pub sort_literals : List Literal → List Literal
sort_literals [] = []
sort_literals (x ∷ xs) = insert_literal x (sort_literals xs)

-- whether two neighbours of x and the sorted literals after it have one variable
unfoldable pub tautological : Literal → List Literal → Bool
tautological x [] = false
tautological x (y ∷ ys) = eqb (node x) (node y) || tautological y ys

-- 1.0 added to the score of each literal's variable
unfoldable pub add_ones : List Float → List Literal → List Float
add_ones activity [] = activity
add_ones activity (l ∷ ls) = add_ones (add_score activity (node l) score_one) ls

-- the watch lists with a new clause, at its first and its second literal if it has one
unfoldable pub watch_clause : List (List ℕ) → ℕ → Literal → List Literal → List (List ℕ)
watch_clause w id x [] = push_watch w x id
watch_clause w id x (y ∷ ys) = push_watch (push_watch w x id) y id

-- the second watched place: 1 if there are two literals
unfoldable pub second_place : List Literal → ℕ
second_place [] = 0
second_place (y ∷ ys) = 1

-- the clause x ∷ xs added, unless it is tautological
unfoldable pub add_unless : Solver → Literal → List Literal → Bool → Solver
add_unless s x xs true = s
add_unless s x xs false =
    record {
      clauses = snoc s.clauses (record { literals = x ∷ xs; watched = (0, second_place xs) });
      watches = watch_clause s.watches (length s.clauses) x xs;
      assignment = s.assignment;
      scores = record { activity = add_ones s.scores.activity (x ∷ xs); activity_increment = s.scores.activity_increment };
      inconsistent = s.inconsistent;
      learned = s.learned;
    }

-- `add_clause` of sorted literals; no literal makes the solver inconsistent
unfoldable pub add_sorted : Solver → List Literal → Solver
add_sorted s [] =
    record { clauses = s.clauses; watches = s.watches; assignment = s.assignment; scores = s.scores; inconsistent = true; learned = s.learned }
add_sorted s (x ∷ xs) = add_unless s x xs (tautological x xs)

-- a clause added; its number is the count of clauses before
unfoldable pub add_clause : Solver → List Literal → Solver
add_clause s ls = add_sorted s (sort_literals ls)

-- ---- propagation

-- `propagate` unfinished, finished with no conflict, or stopped at a clause whose literals are all false
pub data Propagation : Type 0 where
  propagating : Solver → Propagation
  complete : Solver → Propagation
  conflict : ℕ → Solver → Propagation

-- which of the two watched literals is the false one
pub data Slot : Type 0 where
  slot0 slot1 neither : Slot

-- literals[watched[0]]
unfoldable pub watched0 : Clause → Literal
watched0 c = get_or c.literals c.watched.0 0

-- literals[watched[1]]
unfoldable pub watched1 : Clause → Literal
watched1 c = get_or c.literals c.watched.1 0

-- the slot of a false literal
unfoldable pub false_slot : Literal → Clause → Slot
false_slot f c = cond (eqb (watched0 c) f) slot0 (cond (eqb (watched1 c) f) slot1 neither)

-- the literal in the other slot
unfoldable pub other_literal : Clause → Slot → Literal
other_literal c slot0 = watched1 c
other_literal c slot1 = watched0 c
other_literal c neither = 0

-- the clause with a slot's place changed to i
unfoldable pub move_watch : Clause → Slot → ℕ → Clause
move_watch c slot0 i = record { literals = c.literals; watched = (i, c.watched.1) }
move_watch c slot1 i = record { literals = c.literals; watched = (c.watched.0, i) }
move_watch c neither i = c

-- whether a value is not False
unfoldable pub not_false : Value → Bool
not_false False = false
not_false Unassigned = true
not_false True = true

-- whether place i, with literal l, is unwatched and not false
unfoldable pub can_replace : Assignment → Clause → ℕ → Literal → Bool
can_replace t c i l = not (eqb i c.watched.0) && not (eqb i c.watched.1) && not_false (value t l)

-- the first such place from i on
unfoldable pub replacement_from : Assignment → Clause → ℕ → List Literal → Option ℕ
replacement_from t c i [] = none
replacement_from t c i (l ∷ ls) = elim (can_replace t c i l) [ true ↦ some i | false ↦ replacement_from t c (suc i) ls ]

-- the first such place of the clause
unfoldable pub replacement : Assignment → Clause → Option ℕ
replacement t c = replacement_from t c 0 c.literals

-- the clause stays in the watch list of f
unfoldable pub keep_watch : Literal → ℕ → Solver → Solver
keep_watch f id s = with_watches s (push_watch s.watches f id)

-- the clause goes to the watch list of the literal at place i
unfoldable pub replace_watch : ℕ → Solver → Clause → Slot → ℕ → Solver
replace_watch id s c k i =
    record {
      clauses = set s.clauses id (move_watch c k i);
      watches = push_watch s.watches (get_or c.literals i 0) id;
      assignment = s.assignment;
      scores = s.scores;
      inconsistent = s.inconsistent;
      learned = s.learned;
    }

-- `visit` once the other literal was enqueued or found false
unfoldable pub visit_enqueued : ℕ → Solver → Option Assignment → Propagation
visit_enqueued id s none = conflict id s
visit_enqueued id s (some t) = propagating (with_assignment s t)

-- `visit` by the replacement
unfoldable pub visit_replacing : Literal → ℕ → Solver → Clause → Slot → Option ℕ → Propagation
visit_replacing f id s c k (some i) = propagating (replace_watch id s c k i)
visit_replacing f id s c k none = visit_enqueued id (keep_watch f id s) (enqueue s.assignment (other_literal c k) (some id))

-- `visit` by the other literal's value
unfoldable pub visit_other : Literal → ℕ → Solver → Clause → Slot → Value → Propagation
visit_other f id s c k True = propagating (keep_watch f id s)
visit_other f id s c k Unassigned = visit_replacing f id s c k (replacement s.assignment c)
visit_other f id s c k False = visit_replacing f id s c k (replacement s.assignment c)

-- `visit` by the slot; neither never comes, and is sat.rs's `continue`
unfoldable pub visit_slot : Literal → ℕ → Solver → Clause → Slot → Propagation
visit_slot f id s c neither = propagating s
visit_slot f id s c slot0 = visit_other f id s c slot0 (value s.assignment (other_literal c slot0))
visit_slot f id s c slot1 = visit_other f id s c slot1 (value s.assignment (other_literal c slot1))

-- `visit`, given the clause
unfoldable pub visit_clause : Literal → ℕ → Solver → Clause → Propagation
visit_clause f id s c = visit_slot f id s c (false_slot f c)

-- one clause of the watch list of f, which has become false
unfoldable pub visit : Literal → ℕ → Solver → Propagation
visit f id s = visit_clause f id s (get_or s.clauses id empty_clause)

-- the pending clauses in order; after a conflict the rest go back to the watch list of f
unfoldable pub visit_pending : Literal → List ℕ → Propagation → Propagation
visit_pending f [] p = p
visit_pending f (id ∷ ids) (propagating s) = visit_pending f ids (visit f id s)
visit_pending f (id ∷ ids) (complete s) = complete s
visit_pending f (id ∷ ids) (conflict k s) = conflict k (with_watches s (set s.watches f (get_or s.watches f [] ++ (id ∷ ids))))

-- the propagation head one further, and the watch list of f taken
unfoldable pub take_watches : Solver → Literal → Solver
take_watches s f =
    record {
      clauses = s.clauses;
      watches = set s.watches f [];
      assignment =
          record {
            assignments = s.assignment.assignments;
            levels = s.assignment.levels;
            reasons = s.assignment.reasons;
            phases = s.assignment.phases;
            trail = s.assignment.trail;
            trail_limits = s.assignment.trail_limits;
            propagation_head = suc s.assignment.propagation_head;
          };
      scores = s.scores;
      inconsistent = s.inconsistent;
      learned = s.learned;
    }

-- one round of `propagate` by the literal at the head, none at the trail's end
unfoldable pub propagate_assigned : Solver → Option Literal → Propagation
propagate_assigned s none = complete s
propagate_assigned s (some l) = visit_pending (negate l) (get_or s.watches (negate l) []) (propagating (take_watches s (negate l)))

-- one round of `propagate`
unfoldable pub propagate_round : Solver → Propagation
propagate_round s = propagate_assigned s (get_elem? s.assignment.trail s.assignment.propagation_head)

-- at most this many rounds
unfoldable pub propagate_rounds : ℕ → Propagation → Propagation
propagate_rounds zero p = p
propagate_rounds (suc n) (propagating s) = propagate_rounds n (propagate_round s)
propagate_rounds (suc n) (complete s) = complete s
propagate_rounds (suc n) (conflict k s) = conflict k s

-- rounds until the trail's end or a conflict: each takes one literal of the trail
unfoldable pub propagate : Solver → Propagation
propagate s = propagate_rounds (suc (length s.assignment.assignments)) (propagating s)

-- ---- analysis of a conflict

-- the scores, the variables seen, the learned literals after the first place, and the count open at the current level
pub record Analysis : Type 0 where
  pub scores : Scores
  pub seen : List Bool
  pub learned : List Literal
  pub open_at_level : ℕ

-- a variable seen for the first time; the test: it is of the current level
unfoldable pub see_variable : Analysis → Literal → Bool → Analysis
see_variable a l true =
    record {
      scores = bump_activity a.scores (node l);
      seen = set a.seen (node l) true;
      learned = a.learned;
      open_at_level = suc a.open_at_level;
    }
see_variable a l false =
    record {
      scores = bump_activity a.scores (node l);
      seen = set a.seen (node l) true;
      learned = snoc a.learned l;
      open_at_level = a.open_at_level;
    }

-- a literal of a resolved clause, unless it is skipped
unfoldable pub see_unless : Assignment → Analysis → Literal → Bool → Analysis
see_unless t a l true = a
see_unless t a l false = see_variable a l (eqb (get_or t.levels (node l) 0) (decision_level t))

-- whether a literal is skipped: the resolved variable, a seen one, or one of level 0
unfoldable pub skipped : Assignment → ℕ → Analysis → Literal → Bool
skipped t resolved_variable a l =
    eqb (node l) resolved_variable || get_or a.seen (node l) false || eqb (get_or t.levels (node l) 0) 0

-- the literals of a clause in turn
unfoldable pub see_literals : Assignment → ℕ → Analysis → List Literal → Analysis
see_literals t resolved_variable a [] = a
see_literals t resolved_variable a (l ∷ ls) = see_literals t resolved_variable (see_unless t a l (skipped t resolved_variable a l)) ls

-- the last place of the trail below i whose variable is seen
unfoldable pub pivot_index : Assignment → List Bool → ℕ → ℕ
pivot_index t seen zero = 0
pivot_index t seen (suc i) = elim (get_or seen (node (get_or t.trail i 0)) false) [ true ↦ i | false ↦ pivot_index t seen i ]

-- `analyze` unfinished (trail-index, clause-id, resolved_variable), or finished at the pivot whose negation is learned
pub data Resolution : Type 0 where
  resolving : Analysis → ℕ → ℕ → ℕ → Resolution
  resolved : Analysis → Literal → Resolution

-- the reason clause of a variable; 0 where it has none, which `analyze` never meets
unfoldable pub reason_of : Assignment → ℕ → ℕ
reason_of t v = elim (get_or t.reasons v none) [ none ↦ 0 | some id ↦ id ]

-- the pivot no longer seen, and one less open
unfoldable pub close_pivot : Analysis → Literal → Analysis
close_pivot a p =
    record { scores = a.scores; seen = set a.seen (node p) false; learned = a.learned; open_at_level = a.open_at_level - 1 }

-- the end where none is open, else the pivot's reason next
unfoldable pub resolve_next : Assignment → Analysis → ℕ → Literal → Bool → Resolution
resolve_next t a i p true = resolved a p
resolve_next t a i p false = resolving a i (reason_of t (node p)) (node p)

-- the pivot at trail place i
unfoldable pub resolve_pivot : Assignment → Analysis → ℕ → Resolution
resolve_pivot t a i =
    let p = get_or t.trail i 0 in
    let b = close_pivot a p in
    resolve_next t b i p (eqb b.open_at_level 0)

-- the pivot below trail place i
unfoldable pub resolve_below : Assignment → Analysis → ℕ → Resolution
resolve_below t a i = resolve_pivot t a (pivot_index t a.seen i)

-- one round of `analyze`: a clause's literals, then the pivot
unfoldable pub resolve_round : Solver → Analysis → ℕ → ℕ → ℕ → Resolution
resolve_round s a i id v = resolve_below s.assignment (see_literals s.assignment v a (get_or s.clauses id empty_clause).literals) i

-- at most this many rounds
unfoldable pub resolve_rounds : ℕ → Solver → Resolution → Resolution
resolve_rounds zero s r = r
resolve_rounds (suc n) s (resolving a i id v) = resolve_rounds n s (resolve_round s a i id v)
resolve_rounds (suc n) s (resolved a p) = resolved a p

-- the analysis before its first round
unfoldable pub no_analysis : Solver → Analysis
no_analysis s = record { scores = s.scores; seen = replicate (length s.assignment.assignments) false; learned = []; open_at_level = 0 }

-- rounds until one literal of the current level is left: each lowers the trail place
unfoldable pub analyze : Solver → ℕ → Resolution
analyze s id =
    resolve_rounds (length s.assignment.trail) s (resolving (no_analysis s) (length s.assignment.trail) id 0)

-- the increment divided by 0.95, as `analyze` does at its end
unfoldable pub decay_activity : Scores → Scores
decay_activity c = record { activity = c.activity; activity_increment = Ieee.div binary64 c.activity_increment decay }

-- the highest level among literals, 0 where there is none
unfoldable pub highest_level : Assignment → List Literal → ℕ
highest_level t [] = 0
highest_level t (l ∷ ls) = max (get_or t.levels (node l) 0) (highest_level t ls)

-- ---- backtracking

-- a literal's variable unassigned
unfoldable pub unassign : Assignment → Literal → Assignment
unassign t l =
    record {
      assignments = set t.assignments (node l) Unassigned;
      levels = set t.levels (node l) 0;
      reasons = set t.reasons (node l) none;
      phases = t.phases;
      trail = t.trail;
      trail_limits = t.trail_limits;
      propagation_head = t.propagation_head;
    }

-- each literal in turn
unfoldable pub unassign_all : Assignment → List Literal → Assignment
unassign_all t [] = t
unassign_all t (l ∷ ls) = unassign_all (unassign t l) ls

-- the trail cut to n literals and the limits to `level`
unfoldable pub cut_trail : Assignment → ℕ → ℕ → Assignment
cut_trail t n level =
    record {
      assignments = t.assignments;
      levels = t.levels;
      reasons = t.reasons;
      phases = t.phases;
      trail = take n t.trail;
      trail_limits = take level t.trail_limits;
      propagation_head = n;
    }

-- `backtrack`, unless the level is not above
unfoldable pub backtrack_unless : Assignment → ℕ → Bool → Assignment
backtrack_unless t level true = t
backtrack_unless t level false =
    let n = get_or t.trail_limits level 0 in cut_trail (unassign_all t (drop n t.trail)) n level

-- back to a level
unfoldable pub backtrack : Assignment → ℕ → Assignment
backtrack t level = backtrack_unless t level (leb (decision_level t) level)

-- ---- decisions

-- the unassigned variable with the highest score so far
pub data Choice : Type 0 where
  no_choice : Choice
  chosen : ℕ → Float → Choice

-- a further variable is chosen only by a strictly higher score
unfoldable pub choose_between : ℕ → Float → Choice → Choice
choose_between v x no_choice = chosen v x
choose_between v x (chosen w y) = cond (lt y x) (chosen v x) (chosen w y)

-- only unassigned variables are looked at
unfoldable pub choose_valued : ℕ → Float → Value → Choice → Choice
choose_valued v x False b = b
choose_valued v x True b = b
choose_valued v x Unassigned b = choose_between v x b

-- the variables from v on
unfoldable pub choose_from : ℕ → List Value → List Float → Choice → Choice
choose_from v [] xs b = b
choose_from v (y ∷ ys) [] b = b
choose_from v (y ∷ ys) (x ∷ xs) b = choose_from (suc v) ys xs (choose_valued v x y b)

-- the variables from 1 on
unfoldable pub choose_variable : Solver → Choice
choose_variable s = choose_from 1 (drop 1 s.assignment.assignments) (drop 1 s.scores.activity) no_choice

-- ---- the search

-- the answer of `solve` with the total of learned literals; out_of_fuel: the rounds ended first, which never comes
pub data Answer : Type 0 where
  model : List Bool → ℕ → Answer
  no_model : ℕ → Answer
  gave_up : ℕ → Answer
  out_of_fuel : ℕ → Answer

-- the search unfinished, or its answer
pub data Search : Type 0 where
  searching : Solver → Search
  answered : Answer → Search

-- whether a value is True
unfoldable pub is_true : Value → Bool
is_true False = false
is_true Unassigned = false
is_true True = true

-- the literal of a decision: the variable with its phase
unfoldable pub decision : Assignment → ℕ → Literal
decision t v = cond (get_or t.phases v false) (v * 2) (v * 2 + 1)

-- one more decision level
unfoldable pub push_limit : Assignment → Assignment
push_limit t =
    record {
      assignments = t.assignments;
      levels = t.levels;
      reasons = t.reasons;
      phases = t.phases;
      trail = t.trail;
      trail_limits = snoc t.trail_limits (length t.trail);
      propagation_head = t.propagation_head;
    }

-- a decision, or the model where every variable is assigned
unfoldable pub decide : Solver → Choice → Search
decide s no_choice = answered (model (map is_true s.assignment.assignments) s.learned)
decide s (chosen v x) = searching (with_assignment s (assign (push_limit s.assignment) (decision s.assignment v) none))

-- the search after an `enqueue`, which has no model where that failed
unfoldable pub after_enqueue : Solver → Option Assignment → Search
after_enqueue s none = answered (no_model s.learned)
after_enqueue s (some t) = searching (with_assignment s t)

-- the solver with the learned clause, at the level it asks for
unfoldable pub learn : Solver → Scores → Literal → List Literal → Solver
learn s scores asserting others =
    add_clause
    (record {
      clauses = s.clauses;
      watches = s.watches;
      assignment = backtrack s.assignment (highest_level s.assignment others);
      scores = scores;
      inconsistent = s.inconsistent;
      learned = s.learned + suc (length others);
    })
    (asserting ∷ others)

-- the asserting literal enqueued, with the last clause as its reason; the first argument: that clause's number
unfoldable pub assert_learned : ℕ → Literal → Solver → Search
assert_learned id asserting s = after_enqueue s (enqueue s.assignment asserting (some id))

-- the search gives up where the total would be above the limit, before the clause is added
unfoldable pub learn_unless : Solver → Scores → Literal → List Literal → Bool → Search
learn_unless s scores asserting others true = answered (gave_up s.learned)
learn_unless s scores asserting others false = assert_learned (length s.clauses) asserting (learn s scores asserting others)

-- the search after `analyze`; the learned clause has one literal more than the analysis holds
unfoldable pub after_analysis : ℕ → Solver → Resolution → Search
after_analysis limit s (resolving a i id v) = answered (out_of_fuel s.learned)
after_analysis limit s (resolved a p) =
    learn_unless s (decay_activity a.scores) (negate p) a.learned (ltb limit (s.learned + suc (length a.learned)))

-- the search after a conflict: no model at level 0; the last argument: the decision level
unfoldable pub after_conflict : ℕ → Solver → ℕ → ℕ → Search
after_conflict limit s id zero = answered (no_model s.learned)
after_conflict limit s id (suc level) = after_analysis limit s (analyze s id)

-- the search after `propagate`
unfoldable pub after_propagation : ℕ → Propagation → Search
after_propagation limit (propagating s) = answered (out_of_fuel s.learned)
after_propagation limit (complete s) = decide s (choose_variable s)
after_propagation limit (conflict id s) = after_conflict limit s id (decision_level s.assignment)

-- one round of the loop of `solve`, under a limit of learned literals
unfoldable pub step : ℕ → Solver → Search
step limit s = after_propagation limit (propagate s)

-- at most this many rounds
unfoldable pub search_rounds : ℕ → ℕ → Search → Answer
search_rounds limit zero (searching s) = out_of_fuel s.learned
search_rounds limit zero (answered a) = a
search_rounds limit (suc n) (searching s) = search_rounds limit n (step limit s)
search_rounds limit (suc n) (answered a) = a

-- ---- the start

-- the solver of n variables, counted with variable 0, and no clause
unfoldable pub new : ℕ → Solver
new n =
    record {
      clauses = [];
      watches = replicate (n * 2) [];
      assignment =
          record {
            assignments = replicate n Unassigned;
            levels = replicate n 0;
            reasons = replicate n none;
            phases = replicate n false;
            trail = [];
            trail_limits = [];
            propagation_head = 0;
          };
      scores = record { activity = replicate n score_zero; activity_increment = score_one };
      inconsistent = false;
      learned = 0;
    }

-- the literals of a graph's clause: none where TRUE is among them, and FALSE left out
unfoldable pub clause_literals : List Literal → Option (List Literal)
clause_literals [] = some []
clause_literals (zero ∷ ls) = clause_literals ls
clause_literals (suc zero ∷ ls) = none
clause_literals (suc (suc l) ∷ ls) = elim (clause_literals ls) [ none ↦ none | some ks ↦ some (suc (suc l) ∷ ks) ]

-- a clause, if there is one
unfoldable pub add_some : Solver → Option (List Literal) → Solver
add_some s none = s
add_some s (some ls) = add_clause s ls

-- a clause of the graph's literals
unfoldable pub add_aig_clause : Solver → List Literal → Solver
add_aig_clause s ls = add_some s (clause_literals ls)

-- the three clauses of a conjunction whose literal is `output`
unfoldable pub add_node : Solver → Literal → Node → Solver
add_node s output Constant = s
add_node s output (Variable v) = s
add_node s output (And lhs rhs) =
    add_aig_clause
    (add_aig_clause (add_aig_clause s (negate output ∷ lhs ∷ [])) (negate output ∷ rhs ∷ []))
    (output ∷ negate lhs ∷ negate rhs ∷ [])

-- the nodes from number i on
unfoldable pub add_nodes : Solver → ℕ → List Node → Solver
add_nodes s i [] = s
add_nodes s i (n ∷ ns) = add_nodes (add_node s (i * 2) n) (suc i) ns

-- a clause for each assumption
unfoldable pub add_assumptions : Solver → List Literal → Solver
add_assumptions s [] = s
add_assumptions s (l ∷ ls) = add_assumptions (add_aig_clause s (l ∷ [])) ls

-- the clause with number id enqueued if it has one literal
unfoldable pub initialize_unit : Assignment → ℕ → List Literal → Option Assignment
initialize_unit t id [] = some t
initialize_unit t id (l ∷ []) = enqueue t l (some id)
initialize_unit t id (l ∷ k ∷ ls) = some t

-- the clauses from number id on, until one fails
unfoldable pub initialize_units : ℕ → List Clause → Option Assignment → Option Assignment
initialize_units id [] r = r
initialize_units id (c ∷ cs) none = none
initialize_units id (c ∷ cs) (some t) = initialize_units (suc id) cs (initialize_unit t id c.literals)

-- no model where the solver is inconsistent, else the unit clauses enqueued
unfoldable pub start_unless : Solver → Bool → Search
start_unless s true = answered (no_model s.learned)
start_unless s false = after_enqueue s (initialize_units 0 s.clauses (some s.assignment))

-- the search before its first round
unfoldable pub start : Solver → Search
start s = start_unless s s.inconsistent

-- the solver of a graph and its assumptions
unfoldable pub encode : Aig → List Literal → Solver
encode g assumptions = add_assumptions (add_nodes (new (length g)) 1 (drop 1 g)) assumptions

-- enough rounds: each round but the last learns a literal or decides a variable
unfoldable pub rounds : ℕ → Aig → ℕ
rounds limit g = (limit + 2) * (length g + 2)

-- the answer for a graph and its assumptions, under a limit of learned literals
unfoldable pub solve : ℕ → Aig → List Literal → Answer
solve limit g assumptions = search_rounds limit (rounds limit g) (start (encode g assumptions))

-- naming this in an `unfolding` line opens the definitions of this file and those it uses
unfoldable pub all : Unit {0}
unfolding with_assignment with_watches literal_value value making_true decision_level assign enqueue_valued enqueue score_zero score_one decay ceiling rescale_factor add_score rescale_if bump_activity empty_clause push_watch insert_literal sort_literals tautological add_ones watch_clause second_place add_unless add_sorted add_clause watched0 watched1 false_slot other_literal move_watch not_false can_replace replacement_from replacement keep_watch replace_watch visit_enqueued visit_replacing visit_other visit_slot visit_clause visit visit_pending take_watches propagate_assigned propagate_round propagate_rounds propagate see_variable see_unless skipped see_literals pivot_index reason_of close_pivot resolve_next resolve_pivot resolve_below resolve_round resolve_rounds no_analysis analyze decay_activity highest_level unassign unassign_all cut_trail backtrack_unless backtrack choose_between choose_valued choose_from choose_variable is_true decision push_limit decide after_enqueue learn assert_learned learn_unless after_analysis after_conflict after_propagation step search_rounds new clause_literals add_some add_aig_clause add_node add_nodes add_assumptions initialize_unit initialize_units start_unless start encode rounds solve Literals.all Lists.all Ieee.add Ieee.mul Ieee.div lt
all = tt
