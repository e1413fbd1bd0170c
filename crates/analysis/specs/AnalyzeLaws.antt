-- Laws of `analyze` in lent words: what is left of it at the start of a round, and what a round makes of that. Assumes nothing.
use Rattle.std.specs.Prelude.{◌≡◌, Bool, true, false, List, [], eqb, get_or, replicate, Float}
use Rattle.std.proofs.Math.Path.{refl, ap, sym}
use Rattle.std.proofs.Common.{◌∙◌, ⊎_elim, lt-ltb, le-ltb, eq-eqb, ne_eqb}
use Prim.Native.Nat.{ℕ, zero, suc, ◌+◌, ◌-◌, ◌*◌, ◌<◌, ◌≤◌}
use native.Mathlib.Omega.{arith}
use Rattle.std.proofs.Math.ListN.{length}
use Rattle.std.proofs.Math.Seq.{slice}
use Rattle.facts.specs.Numbers.{below}
use Rattle.words.specs.Layout.{LENT, SMALL, POOL, TRAIL, CLAUSE-STARTS, LITERALS}
use Rattle.words.specs.Region.{region}
use Rattle.literals.specs.declared.Literal.{Literal}
use Rattle.model.specs.Literal as Literals
use Rattle.model.specs.Sat as Sat
use Rattle.assignment.specs.State.{assignment_of, Unchanged, TrailReady}
use Rattle.assignment.specs.StateLaws.{unchanged_none, unchanged_both, assignment-kept, variables_are, trail-length}
use Rattle.assignment.specs.Scores.{scores_of, Fixed, Others}
use Rattle.assignment.specs.Blocks.{Cached}
use Rattle.assignment.specs.ScoreLaws.{others-none, others-both}
use Rattle.assignment.specs.declared.state.Trail.{Trail}
use Rattle.assignment.specs.declared.state.Activity.{Activity}
use Rattle.analysis.specs.declared.state.Analysis.{Analysis}
use Rattle.analysis.specs.Analysis.{seen_of, analysis_of, analysis_regions, Unmarked, Ranged, Able, Sees, literals_at, clauses_from, view_of, Begins, Closes, Bounded, Analyzes}
use Rattle.analysis.specs.SeeLaws.{nothing_seen, literals_grow, seen_of_lem, learned-length}

-- ---- the solver as an analysis sees it

clause_in : (k i j : ℕ) (w : List ℕ) → j < k
    → (get_or (clauses_from k i w) j Sat.empty_clause).literals ≡ slice (get_or (region CLAUSE-STARTS w) (i + j) 0) (get_or (region CLAUSE-STARTS w) (i + j + 1) 0) (region LITERALS w)
unfolding clauses_from
clause_in zero i j w h = absurd (omega arith)
clause_in (suc k) i zero w h = let e : i + 0 ≡ i = omega arith in rw e
clause_in (suc k) i (suc j) w h = let e : i + suc j ≡ suc i + j = omega arith in rw e (clause_in k (suc i) j w (omega arith))

clause_out : (k i j : ℕ) (w : List ℕ) → k ≤ j → (get_or (clauses_from k i w) j Sat.empty_clause).literals ≡ []
unfolding clauses_from Sat.empty_clause
clause_out zero i j w h = refl
clause_out (suc k) i zero w h = absurd (omega arith)
clause_out (suc k) i (suc j) w h = clause_out k (suc i) j w (omega arith)

-- its clauses have the literals that the words hold
pub view_literals : (count : ℕ) (t : Trail) (a : Activity) (w : List ℕ) (s : List Float) (id : ℕ) → (get_or (view_of count t a w s).clauses id Sat.empty_clause).literals ≡ literals_at count w id
unfolding view_of literals_at
view_literals count t a w s id =
    ⊎_elim (λ (h : id < count). let e : 0 + id ≡ id = omega arith in rw (lt-ltb id count h) (rw e at (clause_in count 0 id w h)))
    (λ (h : count ≤ id). rw (le-ltb id count h) (clause_out count 0 id w h))
    (below id count)

literals-kept : (count : ℕ) {w w' : List ℕ} (id : ℕ) → Unchanged analysis_regions w w' → literals_at count w' id ≡ literals_at count w id
unfolding literals_at
literals-kept count id f = rw (f.same CLAUSE-STARTS refl, f.same LITERALS refl)

-- the literals of the clauses and of the trail are of the variables still
pub ranged_kept : (count : ℕ) (t : Trail) {w w' : List ℕ} → Unchanged analysis_regions w w' → Ranged count t w → Ranged count t w'
ranged_kept count t f r =
    record {
      some = r.some;
      clauses = λ id h i k. rw (f.same LITERALS refl) (r.clauses id h i (rw (f.same CLAUSE-STARTS refl) at k));
      trail = λ i h. rw (f.same TRAIL refl) (r.trail i h);
    }

-- ---- solvers that an analysis does not tell apart

-- the same assignment, scores and literals
pub record Alike (S T : Sat.Solver) : Type 0 where
  pub assignment : S.assignment ≡ T.assignment
  pub scores : S.scores ≡ T.scores
  pub literals : (id : ℕ) → (get_or S.clauses id Sat.empty_clause).literals ≡ (get_or T.clauses id Sat.empty_clause).literals

round_same : (S T : Sat.Solver) → Alike S T → (a : Sat.Analysis) (i id v : ℕ) → Sat.resolve_round S a i id v ≡ Sat.resolve_round T a i id v
unfolding Sat.resolve_round
round_same S T e a i id v = rw (e.assignment, e.literals id)

rounds-same : (S T : Sat.Solver) → Alike S T → (k : ℕ) (r : Sat.Resolution) → Sat.resolve_rounds k S r ≡ Sat.resolve_rounds k T r
unfolding Sat.resolve_rounds
rounds-same S T e zero r = refl
rounds-same S T e (suc k) (Sat.resolving a i id v) = rw (round_same S T e a i id v) (rounds-same S T e k (Sat.resolve_round T a i id v))
rounds-same S T e (suc k) (Sat.resolved a p) = refl

first-same : (S T : Sat.Solver) → Alike S T → Sat.no_analysis S ≡ Sat.no_analysis T
unfolding Sat.no_analysis
first-same S T e =
    ap (λ (c : Sat.Scores). record { scores = c; seen = replicate (length S.assignment.assignments) false; learned = []; open_at_level = 0 }) e.scores
    ∙ ap (λ (u : Sat.Assignment). record { scores = T.scores; seen = replicate (length u.assignments) false; learned = []; open_at_level = 0 }) e.assignment

-- their analyses are the same
pub analyze-same : (S T : Sat.Solver) → Alike S T → (id : ℕ) → Sat.analyze S id ≡ Sat.analyze T id
unfolding Sat.analyze
analyze-same S T e id =
    rounds-same S T e (length S.assignment.trail) (Sat.resolving (Sat.no_analysis S) (length S.assignment.trail) id 0)
    ∙ ap (λ (u : Sat.Assignment). Sat.resolve_rounds (length u.trail) T (Sat.resolving (Sat.no_analysis S) (length u.trail) id 0)) e.assignment
    ∙ ap (λ (x : Sat.Analysis). Sat.resolve_rounds (length T.assignment.trail) T (Sat.resolving x (length T.assignment.trail) id 0)) (first-same S T e)

-- a solver is alike to the view of its words where its parts are what the words stand for
pub view_alike : (count : ℕ) (t : Trail) (a : Activity) (w : List ℕ) (s : List Float) (S : Sat.Solver) → S.assignment ≡ assignment_of t w → S.scores ≡ scores_of t.variables a s
    → ((id : ℕ) → (get_or S.clauses id Sat.empty_clause).literals ≡ literals_at count w id) → Alike S (view_of count t a w s)
unfolding view_of
view_alike count t a w s S e f g = record { assignment = e; scores = f; literals = λ id. g id ∙ sym (view_literals count t a w s id) }

-- ---- what is learned

-- the learned literals of a resolution
learned_of : Sat.Resolution → List ℕ
learned_of (Sat.resolving a i id v) = a.learned
learned_of (Sat.resolved a p) = a.learned

next-learned : (t : Sat.Assignment) (a : Sat.Analysis) (i p : ℕ) (b : Bool) → learned_of (Sat.resolve_next t a i p b) ≡ a.learned
unfolding Sat.resolve_next learned_of
next-learned t a i p true = refl
next-learned t a i p false = refl

round-learned : (S : Sat.Solver) (a : Sat.Analysis) (i id v : ℕ)
    → learned_of (Sat.resolve_round S a i id v) ≡ (Sat.see_literals S.assignment v a (get_or S.clauses id Sat.empty_clause).literals).learned
unfolding Sat.resolve_round Sat.resolve_below Sat.resolve_pivot Sat.close_pivot
round-learned S a i id v = next-learned S.assignment _ _ _ _

rounds_grow : (k : ℕ) (S : Sat.Solver) (r : Sat.Resolution) → length (learned_of r) ≤ length (learned_of (Sat.resolve_rounds k S r))
unfolding Sat.resolve_rounds learned_of
rounds_grow zero S r = omega arith
rounds_grow (suc k) S (Sat.resolving a i id v) =
    omega (
      arith,
      literals_grow S.assignment v a (get_or S.clauses id Sat.empty_clause).literals,
      ap (λ (ls : List ℕ). length ls) (round-learned S a i id v),
      rounds_grow k S (Sat.resolve_round S a i id v),
    )
rounds_grow (suc k) S (Sat.resolved a p) = omega arith

bounded_learned : (r : Sat.Resolution) → Bounded r → length (learned_of r) < SMALL
unfolding learned_of
bounded_learned (Sat.resolving a i id v) b = absurd b
bounded_learned (Sat.resolved a p) b = b

-- ---- a pivot

opened_of : (t : Trail) (a : Analysis) (w : List ℕ) (s : List Float) → (analysis_of t a w s).open_at_level ≡ a.open_at_level
unfolding analysis_of
opened_of t a w s = refl

-- the pivot's place, the pivot, and the analysis with it closed
below-is : (t : Sat.Assignment) (x y : Sat.Analysis) (i j p : ℕ) → j ≡ Sat.pivot_index t x.seen i → p ≡ get_or t.trail j 0 → y ≡ Sat.close_pivot x p
    → Sat.resolve_below t x i ≡ Sat.resolve_next t y j p (eqb y.open_at_level 0)
unfolding Sat.resolve_below Sat.resolve_pivot
below-is t x y i j p m e c = rw (c, e, m)

-- ---- what is left at the start of a round

-- w₀ and s₀ are the words and scores before the first round, a the activity then
module _ (count : ℕ) (t : Trail) (conflict : ℕ) (activity : Activity) (w₀ : List ℕ) (s₀ : List Float) where
  -- the solver
  abbrev S : Sat.Solver
  S = view_of count t activity w₀ s₀

  -- trail place i, clause id, resolved variable v, and how many rounds are left
  pub record Resolving (a : Analysis) (w : List ℕ) (s : List Float) (i id v rounds : ℕ) : Type 0 where
    pub able : Able t a w s
    pub long : length w ≡ length w₀
    pub frame : Unchanged analysis_regions w₀ w
    pub others : Others t.variables s₀ s
    pub opened : a.open_at_level + rounds * POOL ≤ SMALL * POOL
    pub stamp : a.stamp ≡ count + 1
    pub place : i ≤ t.length
    pub ranged : Ranged count t w
    pub marks : Unmarked (count + 1) t.variables w
    pub cached : Cached t w₀ activity s₀ → Cached t w a.activity s
    pub bounded : Bounded (Sat.analyze S conflict)
    pub left : Sat.resolve_rounds rounds S (Sat.resolving (analysis_of t a w s) i id v) ≡ Sat.analyze S conflict

  assignment-is : {w : List ℕ} → Unchanged analysis_regions w₀ w → assignment_of t w ≡ assignment_of t w₀
  assignment-is f = assignment-kept analysis_regions t refl f

  view_assignment : S.assignment ≡ assignment_of t w₀
  unfolding view_of
  view_assignment = refl

  -- a round is left
  rounds-some : (k : ℕ) (x : Sat.Analysis) (i id v : ℕ) → Bounded (Sat.analyze S conflict) → Sat.resolve_rounds k S (Sat.resolving x i id v) ≡ Sat.analyze S conflict
      → (k ≡ suc (k - 1)) × (Sat.resolve_rounds (k - 1) S (Sat.resolve_round S x i id v) ≡ Sat.analyze S conflict)
  unfolding Sat.resolve_rounds
  rounds-some zero x i id v b e = absurd (rw (← e) at b)
  rounds-some (suc k) x i id v b e = let m : suc k - 1 ≡ k = omega arith in rw m (refl, e)

  rounds-resolved : (k : ℕ) (x : Sat.Analysis) (p : ℕ) → Sat.resolve_rounds k S (Sat.resolved x p) ≡ Sat.resolved x p
  unfolding Sat.resolve_rounds
  rounds-resolved zero x p = refl
  rounds-resolved (suc k) x p = refl

  module _ {a : Analysis} {w : List ℕ} {s : List Float} {i id v rounds : ℕ} (g : Resolving a w s i id v rounds) where
    pub round-some : 0 < rounds
    round-some = omega (arith, (rounds-some rounds (analysis_of t a w s) i id v g.bounded g.left).0)

    next-left : Sat.resolve_rounds (rounds - 1) S (Sat.resolve_round S (analysis_of t a w s) i id v) ≡ Sat.analyze S conflict
    next-left = (rounds-some rounds (analysis_of t a w s) i id v g.bounded g.left).1

    -- what the clause's literals make of the analysis
    abbrev seen_now : Sat.Analysis
    seen_now = Sat.see_literals (assignment_of t w) v (analysis_of t a w s) (literals_at count w id)

    seen_then : Sat.see_literals S.assignment v (analysis_of t a w s) (get_or S.clauses id Sat.empty_clause).literals ≡ seen_now
    seen_then = rw (view_literals count t activity w₀ s₀ id, view_assignment, ← assignment-is g.frame, ← literals-kept count id g.frame)

    pub round_room : length seen_now.learned < SMALL
    round_room =
        omega (
          arith,
          bounded_learned (Sat.analyze S conflict) g.bounded,
          rounds_grow (rounds - 1) S (Sat.resolve_round S (analysis_of t a w s) i id v),
          ap (λ (r : Sat.Resolution). length (learned_of r)) next-left,
          ap (λ (ls : List ℕ). length ls) (round-learned S (analysis_of t a w s) i id v),
          ap (λ (x : Sat.Analysis). length x.learned) seen_then,
        )

    -- a round: the literals seen, the pivot found at j, and closed
    module _ {a₁ a₂ : Analysis} {w₁ w₂ : List ℕ} {s₁ : List Float} (j p : ℕ) (q : Sees POOL t a w s seen_now a₁ w₁ s₁)
        (m : j ≡ Sat.pivot_index (assignment_of t w₁) (seen_of a₁.stamp t w₁) i) (e : p ≡ get_or (assignment_of t w₁).trail j 0) (c : Closes t a₁ w₁ p a₂ w₂) where
      frame₁ : Unchanged analysis_regions w₀ w₁
      frame₁ = unchanged_both analysis_regions g.frame q.frame

      round_is : Sat.resolve_round S (analysis_of t a w s) i id v ≡ Sat.resolve_next (assignment_of t w₀) (analysis_of t a₂ w₂ s₁) j p (eqb a₂.open_at_level 0)
      unfolding Sat.resolve_round
      round_is =
          let x : Sat.resolve_round S (analysis_of t a w s) i id v ≡ Sat.resolve_below (assignment_of t w₀) (analysis_of t a₁ w₁ s₁) i
          = ap (λ (y : Sat.Analysis). Sat.resolve_below S.assignment y i) (seen_then ∙ sym q.is) ∙ ap (λ (u : Sat.Assignment). Sat.resolve_below u (analysis_of t a₁ w₁ s₁) i) view_assignment in
          let f = assignment-is frame₁ in
          x ∙ below-is (assignment_of t w₀) (analysis_of t a₁ w₁ s₁) (analysis_of t a₂ w₂ s₁) i j p (rw (seen_of_lem t a₁ w₁ s₁, ← f) m) (rw (← f) e) (c.is s₁) ∙ rw (opened_of t a₂ w₂ s₁)

      -- no mark is above this analysis' stamp
      pub marks₂ : Unmarked (count + 1) t.variables w₂
      marks₂ = c.marks (count + 1) (q.marks (count + 1) (omega (arith, g.stamp)) g.marks)

      frame₂ : Unchanged analysis_regions w₀ w₂
      frame₂ = unchanged_both analysis_regions frame₁ c.frame

      pub round-done : a₂.open_at_level ≡ 0 → Sat.resolved (analysis_of t a₂ w₂ s₁) p ≡ Sat.analyze S conflict
      unfolding Sat.resolve_next
      round-done z = sym (rounds-resolved (rounds - 1) (analysis_of t a₂ w₂ s₁) p) ∙ ap (λ (r : Sat.Resolution). Sat.resolve_rounds (rounds - 1) S r) (sym (round_is ∙ rw (eq-eqb a₂.open_at_level 0 z))) ∙ next-left

      pub round-more : (k u : ℕ) → j ≤ t.length → (a₂.open_at_level ≡ 0 → ⊥) → u ≡ Literals.node p → k ≡ Sat.reason_of (assignment_of t w₂) u → length w₁ ≡ length w → length w₂ ≡ length w₁ → LENT ≤ length w₂
          → Resolving a₂ w₂ s₁ j k u (rounds - 1)
      unfolding Sat.resolve_next
      round-more k u z n d r l₁ l₂ x =
          let y = g.able.ready in
          record {
            able =
                record {
                  ready = record { words = x; variables = y.variables; literals = y.literals; levels = y.levels };
                  scores = omega (arith, g.able.scores, q.others.long);
                  fixed = rw c.same q.fixed;
                  room = omega (arith, c.learned, round_room, ap (λ (z : Sat.Analysis). length z.learned) q.is, learned-length t a₁ w₁ s₁ q.words);
                  few = omega (arith, c.opened, q.opened, g.opened, round-some);
                  stamped = omega (arith, c.stamp, q.stamp, g.stamp);
                };
            long = l₂ ∙ l₁ ∙ g.long;
            frame = frame₂;
            others = others-both t.variables g.others q.others;
            opened = omega (arith, c.opened, q.opened, g.opened, round-some);
            stamp = c.stamp ∙ q.stamp ∙ g.stamp;
            place = z;
            ranged = ranged_kept count t (unchanged_both analysis_regions q.frame c.frame) g.ranged;
            marks = marks₂;
            cached = λ k. c.cached s₁ (q.cached (g.cached k));
            bounded = g.bounded;
            left = rw (r, d, assignment-is frame₂) (ap (λ (z : Sat.Resolution). Sat.resolve_rounds (rounds - 1) S z) (sym (round_is ∙ rw (ne_eqb a₂.open_at_level 0 n))) ∙ next-left);
          }

  -- ---- the first round and the end

  resolving-first : (a : Analysis) → TrailReady t w₀ → a.activity ≡ activity → seen_of a.stamp t w₀ ≡ replicate t.variables false → a.learned ≡ 0 → a.open_at_level ≡ 0
      → analysis_of t a w₀ s₀ ≡ Sat.no_analysis S
  unfolding analysis_of Sat.no_analysis view_of
  resolving-first a r e f g h = rw (e, f, g, h, variables_are t w₀ r)

-- the analysis before its first round
module _ (count : ℕ) (t : Trail) (conflict : ℕ) (activity : Activity) (w₀ : List ℕ) (s₀ : List Float) (r : Analysis) (b : Begins activity count r) where
  same-goal : Sat.analyze (view_of count t r.activity w₀ s₀) conflict ≡ Sat.analyze (view_of count t activity w₀ s₀) conflict
  same-goal = rw b.scores

  pub resolving-begins : TrailReady t w₀ → t.variables ≤ length s₀ → Fixed activity → Unmarked count t.variables w₀ → Ranged count t w₀ → Bounded (Sat.analyze (view_of count t activity w₀ s₀) conflict)
      → Resolving count t conflict r.activity w₀ s₀ r w₀ s₀ t.length conflict 0 t.length
  unfolding Sat.analyze
  resolving-begins y k f m z x =
      let unseen = nothing_seen r.stamp count t w₀ y m (omega (arith, b.stamp)) in
      record {
        able = record { ready = y; scores = k; fixed = rw b.scores f; room = omega (arith, b.learned); few = omega (arith, b.opened); stamped = omega (arith, b.stamp) };
        long = refl;
        frame = unchanged_none analysis_regions w₀;
        others = others-none t.variables s₀;
        opened = omega (arith, y.literals, b.opened);
        stamp = b.stamp;
        place = omega arith;
        ranged = z;
        marks = λ v h. omega (arith, m v h);
        cached = λ c. c;
        bounded = rw same-goal x;
        left = rw (resolving-first count t conflict r.activity w₀ s₀ r y refl unseen b.learned b.opened, view_assignment count t conflict r.activity w₀ s₀, trail-length t w₀ y);
      }

  -- ---- the end

  module _ {a a₁ a₂ : Analysis} {w₁ w₂ w₃ : List ℕ} {s s₁ : List Float} {i id v rounds : ℕ} (g : Resolving count t conflict r.activity w₀ s₀ a w₁ s i id v rounds) (j : ℕ) (p : Literal)
      (q : Sees POOL t a w₁ s (Sat.see_literals (assignment_of t w₁) v (analysis_of t a w₁ s) (literals_at count w₁ id)) a₁ w₂ s₁)
      (m : j ≡ Sat.pivot_index (assignment_of t w₂) (seen_of a₁.stamp t w₂) i) (e : p.0 ≡ get_or (assignment_of t w₂).trail j 0) (c : Closes t a₁ w₂ p.0 a₂ w₃) where
    pub analyzes : a₂.open_at_level ≡ 0 → Analyzes count t activity conflict w₀ s₀ (record { analysis = a₂; pivot = p }) w₃ s₁
    analyzes z =
        record {
          is = round-done count t conflict r.activity w₀ s₀ g j p.0 q m e c z ∙ same-goal;
          frame = unchanged_both analysis_regions g.frame (unchanged_both analysis_regions q.frame c.frame);
          others = others-both t.variables g.others q.others;
          words = c.words;
          fixed = rw c.same q.fixed;
          room = omega (arith, c.learned, round_room count t conflict r.activity w₀ s₀ g, ap (λ (z : Sat.Analysis). length z.learned) q.is, learned-length t a₁ w₂ s₁ q.words);
          marks = marks₂ count t conflict r.activity w₀ s₀ g j p.0 q m e c;
          cached = λ k. c.cached s₁ (q.cached (g.cached (rw b.scores k)));
        }
