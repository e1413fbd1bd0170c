-- The invariant of the search in one place: of every state, between rounds, during a visit, and at a conflict. Assumes nothing.
use Rattle.std.specs.Prelude.{ℕ, zero, suc, ◌+◌, ◌*◌, ◌≤◌, ◌<◌, ◌≡◌, refl, ◌≢◌, ◌⊎◌, List, [], ◌∷◌}
use Rattle.std.proofs.Common.{arith, sym, ◌∙◌}
use Rattle.std.proofs.Math.Path.{ap}
use Rattle.std.proofs.Math.ListN.{length, get_or, set, length-set}
use Rattle.model.specs.Literal.{Literal, negate}
use Rattle.laws.specs.Search.Listed.{times, pending_times, slot_count}
use Rattle.laws.specs.Terms.{literal_count}
use Rattle.facts.specs.Lists.{set_any, In}
use Rattle.laws.specs.Search.Clauses.{lits, clause_value, count_set}
use Rattle.laws.specs.Search.Trail.{entry, Low, Range}
use Rattle.laws.specs.Search.Reasons.{Earlier, Justified, Follow, justified-clauses}
use Rattle.laws.specs.Search.Watches.{ListedIn, push_in, push_size, Fixed, Pair}
use Rattle.model.specs.Sat.{Clause, Assignment, Solver, with_assignment, with_watches, empty_clause, Propagation, propagating, complete, conflict, Slot, slot0, slot1, neither, watched0, watched1, move_watch, keep_watch, replace_watch}

-- the clause with a number
abbrev pub clause_at : Solver → ℕ → Clause
clause_at s id = get_or s.clauses id empty_clause

-- a clause's two watched literals
abbrev pub PairOf : Assignment → ℕ → Clause → Type 0
PairOf t b c = Pair t b (watched0 c) (watched1 c)

-- the literals of a clause are distinct
abbrev pub Apart : List Literal → Type 0
Apart ls = (i j : ℕ) → i ≢ j → i < length ls → j < length ls → get_or ls i 0 ≢ get_or ls j 0

-- a clause's literals are distinct, and its watched places are two places of it, or twice the place of its only literal
pub record WellWatched (c : Clause) : Type 0 where
  pub first : c.watched.0 < length c.literals
  pub second : c.watched.1 < length c.literals
  pub apart : Apart c.literals
  pub split : 2 ≤ length c.literals → c.watched.0 ≢ c.watched.1

-- what holds at all times, over n variables and the original clauses C
pub record Core (n : ℕ) (C : List Clause) (s : Solver) : Type 0 where
  pub justified : Justified n C s.clauses s.assignment
  pub watch_size : length s.watches ≡ n * 2
  pub listed_in : ListedIn s.watches (length s.clauses)
  pub activity_size : length s.scores.activity ≡ n
  pub in_range : (id i : ℕ) → i < length (lits s.clauses id) → Range n (get_or (lits s.clauses id) i 0)
  pub places : (id : ℕ) → id < length s.clauses → WellWatched (clause_at s id)
  pub count : length C ≤ length s.clauses
  pub kept : (id : ℕ) → id < length C → lits s.clauses id ≡ lits C id
  pub follow : Follow C s.clauses
  pub units : (id : ℕ) → id < length C → length (lits C id) ≡ 1 → Fixed s.assignment (get_or (lits C id) 0 0)
  pub clause_total : length s.clauses ≤ length C + s.learned
  pub literal_total : literal_count s.clauses ≡ literal_count C + s.learned

-- the original clauses of two or more literals are safe, up to trail place b
abbrev pub Pairs : List Clause → ℕ → Solver → Type 0
Pairs C b s = (id : ℕ) → id < length C → 2 ≤ length (lits C id) → PairOf s.assignment b (clause_at s id)

-- a clause stands in the list of a literal as often as it watches it
abbrev pub Exact : Solver → Type 0
Exact s = (l id : ℕ) → id < length s.clauses → times id (get_or s.watches l []) ≡ slot_count (clause_at s id) l

-- the same, those pending on f counted too
abbrev pub ExactBut : Literal → List ℕ → Solver → Type 0
ExactBut f ids s = (l id : ℕ) → id < length s.clauses → times id (get_or s.watches l []) + pending_times f ids l id ≡ slot_count (clause_at s id) l

-- ---- between rounds

-- every original clause is safe before the head
pub record Idle (n : ℕ) (C : List Clause) (s : Solver) : Type 0 where
  pub core : Core n C s
  pub exact : Exact s
  pub low : Low s.assignment.propagation_head s.assignment
  pub pairs : Pairs C s.assignment.propagation_head s

-- the head is at the trail's end
pub record Done (n : ℕ) (C : List Clause) (s : Solver) : Type 0 where
  pub idle : Idle n C s
  pub end : length s.assignment.trail ≤ s.assignment.propagation_head

-- after a conflict: safe before the literal in hand
pub record Stuck (n : ℕ) (C : List Clause) (s : Solver) : Type 0 where
  pub core : Core n C s
  pub place : ℕ
  pub at_head : suc place ≡ s.assignment.propagation_head
  pub exact : Exact s
  pub low : Low place s.assignment
  pub pairs : Pairs C place s

-- ---- during the visits

-- the literal at place p is in hand, with clauses pending on its negation f
pub record Held (n : ℕ) (C : List Clause) (p : ℕ) (f : Literal) (ids : List ℕ) (s : Solver) : Type 0 where
  pub core : Core n C s
  pub low : Low p s.assignment
  pub at_head : suc p ≡ s.assignment.propagation_head
  pub small : f < n * 2
  pub pending_in : (id : ℕ) → In id ids → id < length s.clauses
  pub exact : ExactBut f ids s
  pub pairs : Pairs C p s

-- the same, and each clause that is not pending is safe at place p too
pub record Busy (n : ℕ) (C : List Clause) (p : ℕ) (f : Literal) (ids : List ℕ) (s : Solver) : Type 0 where
  pub held : Held n C p f ids s
  pub here : f ≡ negate (entry s.assignment p)
  pub done : (id : ℕ) → id < length C → 2 ≤ length (lits C id) → In id ids ⊎ PairOf s.assignment (suc p) (clause_at s id)

-- the clause's literals are all false, one of them since place p
pub record Conflicting (s : Solver) (id p : ℕ) : Type 0 where
  pub known : id < length s.clauses
  pub all : (i : ℕ) → i < length (lits s.clauses id) → Earlier s.assignment (length s.assignment.trail) (get_or (lits s.clauses id) i 0)
  pub one : ℕ
  pub one_in : one < length (lits s.clauses id)
  pub one_here : entry s.assignment p ≡ negate (get_or (lits s.clauses id) one 0)

-- what a visit leaves
abbrev pub VisitOk : ℕ → List Clause → ℕ → Literal → List ℕ → Propagation → Type 0
VisitOk n C p f ids (propagating s) = Busy n C p f ids s
VisitOk n C p f ids (complete s) = ⊥
VisitOk n C p f ids (conflict k s) = Held n C p f ids s × Conflicting s k p

-- what a round of propagation leaves
abbrev pub RoundOk : ℕ → List Clause → Propagation → Type 0
RoundOk n C (propagating s) = Idle n C s
RoundOk n C (complete s) = Done n C s
RoundOk n C (conflict k s) = (w : Stuck n C s) × Conflicting s k w.place

-- ---- the watched literals

-- those of a clause of two or more literals differ
pub watched-differ : (c : Clause) → WellWatched c → 2 ≤ length c.literals → watched0 c ≢ watched1 c
unfolding watched0 watched1
watched-differ c w two = w.apart c.watched.0 c.watched.1 (w.split two) w.first w.second

-- ---- what keeps the core

set-literals : (cs : List Clause) (id j : ℕ) (c : Clause) → c.literals ≡ lits cs id → lits (set cs id c) j ≡ lits cs j
set-literals [] id j c e = refl
set-literals (d ∷ cs) zero zero c e = e
set-literals (d ∷ cs) zero (suc j) c e = refl
set-literals (d ∷ cs) (suc id) zero c e = refl
set-literals (d ∷ cs) (suc id) (suc j) c e = set-literals cs id j c e

move_literals : (c : Clause) (k : Slot) (i : ℕ) → (move_watch c k i).literals ≡ c.literals
unfolding move_watch
move_literals c slot0 i = refl
move_literals c slot1 i = refl
move_literals c neither i = refl

-- a watch moved to a place that was not watched
move_well : (c : Clause) (k : Slot) (i : ℕ) → i < length c.literals → i ≢ c.watched.0 → i ≢ c.watched.1 → WellWatched c → WellWatched (move_watch c k i)
unfolding move_watch
move_well c slot0 i h a b w = record { first = h; second = w.second; apart = w.apart; split = λ q. b }
move_well c slot1 i h a b w = record { first = w.first; second = h; apart = w.apart; split = λ q e. a (sym e) }
move_well c neither i h a b w = w

module _ (n : ℕ) (C : List Clause) where
  -- other watch lists
  pub core-watches : (s : Solver) (w : List (List ℕ)) → length w ≡ n * 2 → ListedIn w (length s.clauses) → Core n C s → Core n C (with_watches s w)
  unfolding with_watches
  core-watches s w e f c =
      record {
        justified = c.justified;
        watch_size = e;
        listed_in = f;
        activity_size = c.activity_size;
        in_range = c.in_range;
        places = c.places;
        count = c.count;
        kept = c.kept;
        follow = c.follow;
        units = c.units;
        clause_total = c.clause_total;
        literal_total = c.literal_total;
      }

  -- another assignment, with what was fixed
  pub core-assignment : (s : Solver) (t : Assignment) → Justified n C s.clauses t → ((k : Literal) → Fixed s.assignment k → Fixed t k) → Core n C s
      → Core n C (with_assignment s t)
  unfolding with_assignment
  core-assignment s t j fx c =
      record {
        justified = j;
        watch_size = c.watch_size;
        listed_in = c.listed_in;
        activity_size = c.activity_size;
        in_range = c.in_range;
        places = c.places;
        count = c.count;
        kept = c.kept;
        follow = c.follow;
        units = λ id h e. fx _ (c.units id h e);
        clause_total = c.clause_total;
        literal_total = c.literal_total;
      }

  -- the clause stays in the list of f
  pub core_keep : (s : Solver) (f id : ℕ) → id < length s.clauses → Core n C s → Core n C (keep_watch f id s)
  unfolding keep_watch
  core_keep s f id h c = core-watches s _ (push_size s.watches f id ∙ c.watch_size) (push_in s.watches f id (length s.clauses) h c.listed_in) c

  -- the clause is watched at another place
  pub core_replace : (s : Solver) (id : ℕ) (k : Slot) (i : ℕ) → id < length s.clauses → i < length (lits s.clauses id) → i ≢ (clause_at s id).watched.0 → i ≢ (clause_at s id).watched.1 → Core n C s
      → Core n C (replace_watch id s (clause_at s id) k i)
  unfolding replace_watch
  core_replace s id k i hid hi not0 not1 c =
      let d = move_watch (clause_at s id) k i in
      let ds = set s.clauses id d in
      let e : length ds ≡ length s.clauses = length-set s.clauses id d in
      let same : (j : ℕ) → lits ds j ≡ lits s.clauses j = λ j. set-literals s.clauses id j d (move_literals (clause_at s id) k i) in
      let l = get_or (lits s.clauses id) i 0 in
      record {
        justified = justified-clauses n C s.clauses ds s.assignment (omega (arith, e)) (λ j h. same j) c.justified;
        watch_size = push_size s.watches l id ∙ c.watch_size;
        listed_in = push_in s.watches l id (length ds) (omega (arith, e)) (λ m j q. omega (arith, e, c.listed_in m j q));
        activity_size = c.activity_size;
        in_range = λ j h q. rw (same j) (c.in_range j h (rw (same j) at q));
        places = λ j h. set_any WellWatched s.clauses id j d empty_clause (c.places j (omega (arith, e))) (move_well (clause_at s id) k i hi not0 not1 (c.places id hid));
        count = omega (arith, e, c.count);
        kept = λ j h. same j ∙ c.kept j h;
        follow = λ vs sat j h. ap (clause_value vs) (same j) ∙ c.follow vs sat j (omega (arith, e));
        units = c.units;
        clause_total = omega (arith, e, c.clause_total);
        literal_total = count_set s.clauses id d (move_literals (clause_at s id) k i) ∙ c.literal_total;
      }
