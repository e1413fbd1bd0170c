-- Learning keeps the invariant: the cut, the learned clause added, and its literal asserted, which is not false there. Assumes nothing.
use Prim.Native.Nat.{ℕ, ◌*◌, zero, suc, ◌+◌, ◌≤◌, ◌<◌}
use Rattle.std.proofs.Common.{arith, sym, ◌∙◌, inl, inr}
use Rattle.std.specs.Prelude.{◌≡◌, refl, ◌≢◌, ◌⊎◌, Bool, drop}
use Rattle.std.proofs.Math.Path.{ap, subst}
use Rattle.std.proofs.Math.Bool.{true, false}
use Rattle.std.proofs.lemmas.Bool.{false≢true, lt-leb}
use mathlib.Core.List.{List, [], ◌∷◌}
use Rattle.std.proofs.Math.Option.{some}
use Rattle.std.proofs.Math.ListN.{length, get_or}
use Rattle.model.specs.Literal.{Literal, node, negate}
use Rattle.model.specs.Lists.{snoc}
use Rattle.model.specs.Sat.{False, Clause, Assignment, Scores, Solver, value, decision_level, empty_clause, push_watch, sort_literals, tautological, watch_clause, second_place, add_unless, add_sorted, add_clause, Analysis, highest_level, unassign_all, cut_trail, backtrack_unless, backtrack, learn}
use Rattle.laws.specs.Search.Listed.{times, slot_count, new-times, old-times}
use Rattle.laws.specs.Graph.Values.{node-negate}
use Rattle.laws.specs.Search.Analysis.{Analyzed}
use Rattle.laws.specs.Search.Backtrack.{cut, cut_place, cut-length, cut-entry, cut_low, cut-inv}
use Rattle.facts.specs.Lists.{All, all-at, all_map}
use Rattle.facts.specs.Numbers.{by_lt, by_eq}
use Rattle.laws.specs.Lists.{get_or-snoc-old, get_or-snoc-new, snoc-all, snoc_any, length-snoc}
use Rattle.laws.specs.Search.Values.{negate-true, negate-negate}
use Rattle.laws.specs.Search.Clauses.{lits, clause_value, Satisfied, sort-value, count-snoc}
use Rattle.laws.specs.Search.Trail.{limit_at, Range, TrailInv}
use Rattle.laws.specs.Search.Reasons.{Earlier, Before, Rests, justified-clauses, justified-cut}
use Rattle.laws.specs.Search.Watches.{ListedIn, push_in, push_size, pair-map, fixed-cut, safe_cut}
use Rattle.laws.specs.Search.State.{clause_at, PairOf, Apart, WellWatched, Idle, Stuck, Exact}
use Rattle.laws.specs.Search.Sorting.{Distinct, sort-all, sort-distinct, sort-length, distinct_plain, insert_filled, distinct_apart}
use Rattle.laws.specs.Search.Scores.{ones_size}

-- ---- one more clause

-- no watch list is added
pub watch_clause-size : (w : List (List ℕ)) (id : ℕ) (x : Literal) (xs : List Literal) → length (watch_clause w id x xs) ≡ length w
unfolding watch_clause
watch_clause-size w id x [] = push_size w x id
watch_clause-size w id x (y ∷ ys) = push_size (push_watch w x id) y id ∙ push_size w x id

-- the watch lists name clauses that are there
pub watch_clause_in : (w : List (List ℕ)) (id : ℕ) (x : Literal) (xs : List Literal) (k : ℕ) → id < k → ListedIn w k → ListedIn (watch_clause w id x xs) k
unfolding watch_clause
watch_clause_in w id x [] k h f = push_in w x id k h f
watch_clause_in w id x (y ∷ ys) k h f = push_in (push_watch w x id) y id k h (push_in w x id k h f)

-- it watches its first two literals, or its only one
pub new-well : (x : Literal) (xs : List Literal) → Apart (x ∷ xs) → WellWatched (record { literals = x ∷ xs; watched = (0, second_place xs) })
unfolding second_place
new-well x [] a = record { first = omega arith; second = omega arith; apart = a; split = λ q. absurd (omega arith) }
new-well x (y ∷ ys) a = record { first = omega arith; second = omega arith; apart = a; split = λ q z. omega arith }

-- the solver with another total
abbrev with_total : Solver → ℕ → Solver
with_total s total =
    record { clauses = s.clauses; watches = s.watches; assignment = s.assignment; scores = s.scores; inconsistent = s.inconsistent; learned = total }

module _ (n : ℕ) where
  literal_in : (w : List (List ℕ)) (l : Literal) → length w ≡ n * 2 → Range n l → l < length w
  unfolding node
  literal_in w l e h = omega (arith, h.1)

  -- a new clause is listed as it watches, and the others are as before
  pub new-exact : (s : Solver) (x : Literal) (xs : List Literal) → All (Range n) (x ∷ xs) → length s.watches ≡ n * 2 → ListedIn s.watches (length s.clauses) → Exact s
      → (l id : ℕ) → id < length (snoc s.clauses (record { literals = x ∷ xs; watched = (0, second_place xs) }))
      → times id (get_or (watch_clause s.watches (length s.clauses) x xs) l []) ≡ slot_count (get_or (snoc s.clauses (record { literals = x ∷ xs; watched = (0, second_place xs) })) id empty_clause) l
  new-exact s x xs h size listed w l id q =
      let c : Clause = record { literals = x ∷ xs; watched = (0, second_place xs) } in
      let cs = s.clauses in
      let hx = literal_in s.watches x size h.0 in
      let hy : (y : Literal) (ys : List Literal) → xs ≡ y ∷ ys → y < length s.watches = λ y ys e. literal_in s.watches y size (subst (All (Range n)) e h.1).0 in
      by_eq id (length cs)
      (λ z.
      subst (λ k. times k (get_or (watch_clause s.watches (length cs) x xs) l []) ≡ slot_count (get_or (snoc cs c) k empty_clause) l) (sym z)
      (new-times s.watches (length cs) x xs l listed hx hy ∙ ap (λ d. slot_count d l) (sym (get_or-snoc-new cs c empty_clause))))
      (λ z.
      let hid : id < length cs = omega (arith, length-snoc cs c) in
      old-times s.watches (length cs) x xs l id z hx hy ∙ w l id hid ∙ ap (λ d. slot_count d l) (sym (get_or-snoc-old cs c empty_clause id hid)))

module _ (n : ℕ) (C : List Clause) where
  -- a clause that follows, with the total that counts it
  add-idle : (s : Solver) (total : ℕ) (x : Literal) (xs : List Literal) → All (Range n) (x ∷ xs) → Apart (x ∷ xs) → ((vs : List Bool) → Satisfied vs C → clause_value vs (x ∷ xs) ≡ true)
      → total ≡ s.learned + length (x ∷ xs) → Idle n C s → Idle n C (add_unless (with_total s total) x xs false)
  unfolding add_unless
  add-idle s total x xs h apart true-now e w =
      let c : Clause = record { literals = x ∷ xs; watched = (0, second_place xs) } in
      let cs = s.clauses in
      let longer : length (snoc cs c) ≡ suc (length cs) = length-snoc cs c in
      let old : (j : ℕ) → j < length C → get_or (snoc cs c) j empty_clause ≡ clause_at s j = λ j q. get_or-snoc-old cs c empty_clause j (omega (arith, w.core.count)) in
      record {
        core =
            record {
              justified =
                  justified-clauses n C cs (snoc cs c) s.assignment (omega (arith, longer)) (λ id q. ap (λ d. d.literals) (get_or-snoc-old cs c empty_clause id q)) w.core.justified;
              watch_size = watch_clause-size s.watches (length cs) x xs ∙ w.core.watch_size;
              listed_in =
                  watch_clause_in s.watches (length cs) x xs (length (snoc cs c)) (omega (arith, longer)) (λ l id q. omega (arith, longer, w.core.listed_in l id q));
              activity_size = ones_size (x ∷ xs) s.scores.activity ∙ w.core.activity_size;
              in_range =
                  λ id.
                  snoc_any (λ d. (i : ℕ) → i < length d.literals → Range n (get_or d.literals i 0)) cs id c empty_clause (w.core.in_range id)
                  (all-at (Range n) (x ∷ xs) h);
              places = snoc-all empty_clause (λ id d. WellWatched d) cs c w.core.places (new-well x xs apart);
              count = omega (arith, longer, w.core.count);
              kept = λ id q. ap (λ d. d.literals) (old id q) ∙ w.core.kept id q;
              follow = λ vs sat. snoc-all empty_clause (λ id d. clause_value vs d.literals ≡ true) cs c (w.core.follow vs sat) (true-now vs sat);
              units = w.core.units;
              clause_total = omega (arith, longer, e, w.core.clause_total);
              literal_total = omega (arith, count-snoc cs c, e, w.core.literal_total);
            };
        exact = new-exact n s x xs h w.core.watch_size w.core.listed_in w.exact;
        low = w.low;
        pairs = λ id q two. subst (PairOf s.assignment s.assignment.propagation_head) (sym (old id q)) (w.pairs id q two);
      }

  -- what a clause that was added leaves: it is the last one
  record Added (s u : Solver) (ls : List Literal) : Type 0 where
    idle : Idle n C u
    more : length s.clauses < length u.clauses
    last : lits u.clauses (length s.clauses) ≡ ls
    same : u.assignment ≡ s.assignment

  unless_added : (s : Solver) (total : ℕ) (x : Literal) (xs : List Literal) (b : Bool) → b ≡ false → Idle n C (add_unless (with_total s total) x xs false)
      → Added s (add_unless (with_total s total) x xs b) (x ∷ xs)
  unfolding add_unless
  unless_added s total x xs true e w = absurd (false≢true (sym e))
  unless_added s total x xs false e w =
      record {
        idle = w;
        more = omega (arith, length-snoc s.clauses (record { literals = x ∷ xs; watched = (0, second_place xs) }));
        last = ap (λ c. c.literals) (get_or-snoc-new s.clauses (record { literals = x ∷ xs; watched = (0, second_place xs) }) empty_clause);
        same = refl;
      }

  sorted_added : (s : Solver) (total : ℕ) (ls : List Literal) → 0 < length ls → Distinct ls → All (Range n) ls → ((vs : List Bool) → Satisfied vs C → clause_value vs ls ≡ true)
      → total ≡ s.learned + length ls → Idle n C s → Added s (add_sorted (with_total s total) ls) ls
  unfolding add_sorted
  sorted_added s total [] h d r f e w = absurd (omega arith)
  sorted_added s total (x ∷ xs) h d r f e w = unless_added s total x xs (tautological x xs) (distinct_plain x xs d) (add-idle s total x xs r (distinct_apart (x ∷ xs) d) f e w)

-- ---- the cut

highest_low : (t : Assignment) (ls : List Literal) → 0 < length t.trail_limits → All (λ l. get_or t.levels (node l) 0 < length t.trail_limits) ls → highest_level t ls < length t.trail_limits
unfolding highest_level
highest_low t [] h w = h
highest_low t (l ∷ ls) h w = omega (arith, highest_low t ls h w.1, w.0)

back_cut : (t : Assignment) (level : ℕ) → level < length t.trail_limits
    → backtrack t level ≡ cut_trail (unassign_all t (drop (limit_at t level) t.trail)) (limit_at t level) level
unfolding backtrack backtrack_unless decision_level
back_cut t level h = rw (lt-leb (length t.trail_limits) level h)

-- ---- learning what the analysis found

module _ (n : ℕ) (C : List Clause) (s : Solver) (w : Stuck n C s) (some_level : 0 < length s.assignment.trail_limits) (scores : Scores) (a : Analysis) (p : Literal)
    (z : Analyzed n s.clauses s.assignment a p) (size : length scores.activity ≡ n) where
  -- the assignment at the conflict
  abbrev t : Assignment
  t = s.assignment

  -- its trail's invariant
  abbrev inv : TrailInv n t
  inv = w.core.justified.trail_inv

  -- the level that the clause asks for
  abbrev level : ℕ
  level = highest_level t a.learned

  -- it is below the current one
  abbrev inside : level < length t.trail_limits
  inside = highest_low t a.learned some_level z.levels

  -- the assignment at the level that the clause asks for
  abbrev after : Assignment
  after = cut n t inv level inside

  -- the learned clause
  abbrev clause : List Literal
  clause = negate p ∷ a.learned

  -- the total with the clause
  abbrev total : ℕ
  total = s.learned + suc (length a.learned)

  -- the solver before the clause is added
  abbrev before : Assignment → Solver
  before u = record { clauses = s.clauses; watches = s.watches; assignment = u; scores = scores; inconsistent = s.inconsistent; learned = s.learned }

  cut-idle : Idle n C (before after)
  unfolding cut_trail
  cut-idle =
      record {
        core =
            record {
              justified = justified-cut n C s.clauses t w.core.justified level inside;
              watch_size = w.core.watch_size;
              listed_in = w.core.listed_in;
              activity_size = size;
              in_range = w.core.in_range;
              places = w.core.places;
              count = w.core.count;
              kept = w.core.kept;
              follow = w.core.follow;
              units = λ id h e. fixed-cut n t inv level inside _ (w.core.units id h e);
              clause_total = w.core.clause_total;
              literal_total = w.core.literal_total;
            };
        exact = w.exact;
        low = cut_low n t inv level inside;
        pairs = λ id h two. pair-map (safe_cut n t inv level inside w.place (w.low level inside)) (w.pairs id h two);
      }

  asserting_range : Range n (negate p)
  asserting_range = subst (λ v. (1 ≤ v) × (v < n)) (ap node z.here ∙ sym (node-negate p)) (inv.range z.place z.place_in)

  -- the pivot's variable is of the current level
  pivot-level : length t.trail_limits ≤ get_or t.levels (node p) 0
  pivot-level = go (length t.trail_limits) refl some_level
    where
      go : (k : ℕ) → length t.trail_limits ≡ k → 0 < k → length t.trail_limits ≤ get_or t.levels (node p) 0
      go zero e h = absurd (omega arith)
      go (suc k) e h = omega (arith, inv.deep z.place k z.place_in (omega arith) (z.current k (omega arith)), ap (λ l. get_or t.levels (node l) 0) z.here)

  clause-distinct : Distinct clause
  clause-distinct = (
    all_map (λ l. get_or t.levels (node l) 0 < length t.trail_limits) (λ l. node (negate p) ≢ node l)
        (λ l h e. omega (arith, h, pivot-level, ap (λ u. get_or t.levels u 0) (sym (node-negate p) ∙ e))) a.learned z.levels,
    z.apart,
  )

  clause-true : (vs : List Bool) → Satisfied vs C → clause_value vs (sort_literals clause) ≡ true
  clause-true vs sat = sort-value vs clause ∙ z.holds vs (w.core.follow vs sat) (w.core.justified.grounding vs sat)

  learned_added : Added n C (before after) (add_sorted (with_total (before after) total) (sort_literals clause)) (sort_literals clause)
  learned_added =
      sorted_added n C (before after) total (sort_literals clause) (unfold sort_literals in insert_filled (negate p) (sort_literals a.learned)) (sort-distinct clause clause-distinct)
      (sort-all (Range n) clause (asserting_range, z.ranges)) clause-true (ap (λ k. s.learned + k) (sym (sort-length clause clause-distinct))) cut-idle

  learn-is : learn s scores (negate p) a.learned ≡ add_sorted (with_total (before after) total) (sort_literals clause)
  unfolding learn add_clause
  learn-is = ap (λ u. add_sorted (with_total (before u) total) (sort_literals clause)) (back_cut t level inside)

  -- the invariant after the clause is learned
  pub learn-idle : Idle n C (learn s scores (negate p) a.learned)
  learn-idle = subst (Idle n C) (sym learn-is) learned_added.idle

  learn-same : (learn s scores (negate p) a.learned).assignment ≡ after
  learn-same = ap (λ u. u.assignment) learn-is ∙ learned_added.same

  -- a literal of a level that stays is false still
  stays : (l : Literal) → get_or t.levels (node l) 0 ≤ level → Earlier t (length t.trail) l → Earlier after (length after.trail) l
  stays l h e =
      by_lt e.0 (cut_place n t inv level inside) (λ lt. (e.0, rw (cut-length n t inv level inside) lt, cut-entry n t inv level inside e.0 lt ∙ e.2))
      (λ ge. absurd (omega (arith, inv.deep e.0 level e.1 inside ge, ap (λ k. get_or t.levels (node k) 0) e.2, ap (λ u. get_or t.levels u 0) (node-negate l))))

  all_stay : (ls : List Literal) → highest_level t ls ≤ level → All (Earlier t (length t.trail)) ls → All (λ l. (l ≡ negate p) ⊎ Earlier after (length after.trail) l) ls
  unfolding highest_level
  all_stay [] h e = tt
  all_stay (l ∷ ls) h e = (inr (stays l (omega arith) e.0), all_stay ls (omega arith) e.1)

  -- the asserted literal rests on the learned clause
  pub learned_rests : (let u = learn s scores (negate p) a.learned in Rests u.clauses u.assignment (negate p) (some (length s.clauses)))
  learned_rests =
      subst (λ u. Rests u.clauses u.assignment (negate p) (some (length s.clauses))) (sym learn-is) (
        length s.clauses,
        learned_added.more,
        refl,
        subst (λ x. Before x (length x.trail) (lits (add_sorted (with_total (before after) total) (sort_literals clause)).clauses (length s.clauses)) (negate p)) (sym learned_added.same)
            (subst (λ ls. Before after (length after.trail) ls (negate p)) (sym learned_added.last)
            (all-at (λ l. (l ≡ negate p) ⊎ Earlier after (length after.trail) l) (sort_literals clause)
            (sort-all (λ l. (l ≡ negate p) ⊎ Earlier after (length after.trail) l) clause (inl refl, all_stay a.learned (omega arith) z.placed)))),
      )

  -- the asserted literal is of a variable
  pub learned-range : Range n (negate p)
  learned-range = asserting_range

  -- it is not false: its variable stood at a place that was cut
  pub asserted-not-false : value (learn s scores (negate p) a.learned).assignment (negate p) ≡ False → ⊥
  asserted-not-false e =
      let v : value after (negate p) ≡ False = subst (λ u. value u (negate p) ≡ False) learn-same e in
      let o = (cut-inv n t inv level inside).on_trail (negate (negate p)) (negate-true after (negate p) v) in
      let lt : o.0 < cut_place n t inv level inside = omega (arith, o.1, cut-length n t inv level inside) in
      inv.apart o.0 z.place (omega (arith, z.current level inside)) z.place_in
      (ap node (sym (cut-entry n t inv level inside o.0 lt) ∙ o.2 ∙ negate-negate p ∙ sym z.here))
