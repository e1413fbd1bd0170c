-- Every state of the search of a query is as Reachable says. Assumes nothing.
use Rattle.std.specs.Prelude.{ℕ, zero, suc, ◌+◌, ◌-◌, ◌*◌, ◌≤◌, ◌<◌, ◌≡◌, Bool, true, false, List, [], ◌∷◌, length, get_or, drop}
use Rattle.std.proofs.Common.{arith, ap, subst}
use Rattle.std.proofs.Math.Path.{refl}
use Rattle.std.proofs.Math.Option.{some}
use Rattle.std.proofs.Math.ListN.{get_elem?}
use Rattle.model.specs.Literal.{Literal, node, negate}
use Rattle.model.specs.Aig.{Aig}
use Rattle.model.specs.Sat.{Clause, Assignment, Scores, Solver, decision_level, take_watches, visit, propagate_round, Analysis, analyze, choose_variable, no_model, searching, answered, decide, learn, step, start_unless, start, encode}
use Rattle.laws.specs.Search.Analysis.{Analyzed, AnalysisEnded}
use Rattle.laws.specs.Terms.{Reached, begun, stepped, literal_count}
use Rattle.facts.specs.Lists.{All}
use Rattle.laws.specs.Graph.Operations.{Formed}
use Rattle.laws.specs.Search.Clauses.{lits}
use Rattle.laws.specs.Search.Trail.{entry, limit_at, Range, TrailInv}
use Rattle.laws.specs.Search.Reasons.{Justified}
use Rattle.laws.specs.Search.State.{Exact, Core, Idle, Done, Stuck, Busy, Conflicting, VisitOk, RoundOk}
use Rattle.laws.specs.Search.Pigeonhole.{pigeon}
use Rattle.laws.specs.Search.Loop.{Keeps}
use Rattle.laws.specs.Search.Step.{step_keeps, decide-keeps, analysis-ends, AnswerOk}
use Rattle.laws.specs.Search.Visit.{visit_ok}
use Rattle.laws.specs.Search.Propagation.{assigned_ok, taken_busy}
use Rattle.laws.specs.Search.Learning.{learn-idle}
use Rattle.laws.specs.Search.Encode.{Encoded, encode-encoded}
use Rattle.laws.specs.Search.Counts.{encode-counts}
use Rattle.laws.specs.Search.Start.{start-keeps}
use Rattle.laws.specs.Search.Model.{formed-pos}
use Rattle.laws.specs.Search.Total.{Fits, Ends, step_fits, start_fits}
use Rattle.laws.specs.Search.Adding.{encode-learned}
use Rattle.laws.specs.Search.Reachable.{Reachable}

-- ---- the trail is short

-- distinct variables from 1 on: fewer than n
trail-below : (n : ℕ) (t : Assignment) → 0 < n → TrailInv n t → length t.trail < n
trail-below n t pos w =
    let x = pigeon (n - 1) (length t.trail) (λ p. node (entry t p) - 1) (λ p h. omega (arith, (w.range p h).0, (w.range p h).1))
    (λ p q a h e. w.apart p q a h (omega (arith, (w.range p (omega arith)).0, (w.range q h).0, e))) in
    omega (arith, x)

-- a level begins at no lower place than its number
limit_high : (n : ℕ) (t : Assignment) → TrailInv n t → (i : ℕ) → i < length t.trail_limits → i ≤ limit_at t i
limit_high n t w zero h = omega arith
limit_high n t w (suc i) h = omega (arith, limit_high n t w i (omega arith), w.rise i (suc i) (omega arith) h)

levels-below : (n : ℕ) (C cs : List Clause) (t : Assignment) → Justified n C cs t → (k : ℕ) → length t.trail_limits ≡ k → k ≤ length t.trail
levels-below n C cs t w zero e = omega arith
levels-below n C cs t w (suc k) e = omega (arith, limit_high n t w.trail_inv k (omega arith), w.strict k (omega arith))

range-literal : (n : ℕ) (l : Literal) → Range n l → l < n * 2
unfolding node
range-literal n l h = omega (arith, h.1)

-- ---- the facts

-- every state in the invariant's core has them: between rounds, during a visit, at a conflict
pub core_reachable : (limit : ℕ) (g : Aig) (assumptions : List Literal) (s : Solver) → 0 < length g → Core (length g) (encode g assumptions).clauses s → s.learned ≤ limit
    → Reachable limit g assumptions s
unfolding decision_level
core_reachable limit g assumptions s pos w h =
    let inv = w.justified.trail_inv in
    let x = encode-counts g assumptions in
    record {
      assignments_size = inv.size;
      levels_size = inv.level_size;
      reasons_size = inv.reason_size;
      phases_size = inv.phase_size;
      watches_size = w.watch_size;
      scores_size = w.activity_size;
      trail_short = trail-below (length g) s.assignment pos inv;
      head_fits = inv.head;
      levels_fit = levels-below (length g) (encode g assumptions).clauses s.clauses s.assignment w.justified (length s.assignment.trail_limits) refl;
      limits_fit = w.justified.strict;
      level_fits = inv.level;
      trail_literals = λ p q. range-literal (length g) (entry s.assignment p) (inv.range p q);
      clause_literals_lem = λ id i q. range-literal (length g) (get_or (lits s.clauses id) i 0) (w.in_range id i q);
      watched_places = w.places;
      watched_clauses = w.listed_in;
      reason_clauses = w.justified.reasons_in;
      clause_count = omega (arith, x.0, w.clause_total);
      literal_count_lem = omega (arith, x.1, w.literal_total);
      total = h;
    }

-- the learned clauses are those after the original ones, and the total is the sum of their lengths
drop-count : (C ds : List Clause) → length C ≤ length ds → ((id : ℕ) → id < length C → lits ds id ≡ lits C id) → literal_count ds ≡ literal_count C + literal_count (drop (length C) ds)
unfolding literal_count
drop-count [] ds h same = omega arith
drop-count (c ∷ C) [] h same = absurd (omega arith)
drop-count (c ∷ C) (d ∷ ds) h same = omega (arith, ap length (same 0 (omega arith)), drop-count C ds (omega arith) (λ id q. same (suc id) (omega arith)))

-- so of every state in the core
pub core-total : (n : ℕ) (C : List Clause) (s : Solver) → Core n C s → s.learned ≡ literal_count (drop (length C) s.clauses)
core-total n C s w = omega (arith, w.literal_total, drop-count C s.clauses w.count w.kept)

-- ---- the states that are reached

inconsistent-ends : (s : Solver) (u : Solver) → s.inconsistent ≡ true → start s ≡ searching u → ⊥
unfolding start start_unless
inconsistent-ends s u e q =
    let z : answered (no_model s.learned) ≡ searching u = subst (λ b. start_unless s b ≡ searching u) e q in
    let y : ◌≡◌ {A = ℕ} 0 1 = cc in
    omega arith

module _ (limit : ℕ) (g : Aig) (formed : Formed g) (assumptions : List Literal) (inside : All (λ l. node l < length g) assumptions) where
  -- the original clauses
  abbrev C : List Clause
  C = (encode g assumptions).clauses

  -- the graph has a node
  abbrev pos : 0 < length g
  pos = formed-pos g formed

  -- the encoding is as `add_clause` leaves it
  abbrev encoded : Encoded (length g) (encode g assumptions)
  encoded = encode-encoded g formed.order assumptions inside

  -- the invariant and the total, together
  abbrev Both : Solver → Type 0
  Both s = Idle (length g) C s × (s.learned ≤ limit)

  start-both : (s : Solver) → start (encode g assumptions) ≡ searching s → Both s
  start-both s e = go (encode g assumptions).inconsistent refl
    where
      go : (b : Bool) → (encode g assumptions).inconsistent ≡ b → Both s
      go true q = absurd (inconsistent-ends (encode g assumptions) s q e)
      go false q = (
        subst (Keeps (Idle (length g) C) (AnswerOk (length g) C)) e (start-keeps (length g) (encode g assumptions) encoded q),
        subst (Keeps (Fits limit) (Ends limit)) e
            (unfold start in start_fits limit (encode g assumptions) (encode g assumptions).inconsistent (omega (arith, encode-learned g assumptions))),
      )

  step_both : (s t : Solver) → step limit s ≡ searching t → Both s → Both t
  step_both s t e w = (
    subst (Keeps (Idle (length g) C) (AnswerOk (length g) C)) e
        (step_keeps (length g) C limit s w.0),
    subst (Keeps (Fits limit) (Ends limit)) e (step_fits limit s w.1),
  )

  -- every state that the search comes to is in the invariant, with its total at most the limit
  pub reached-idle : (s : Solver) → Reached limit g assumptions s → Idle (length g) C s × (s.learned ≤ limit)
  reached-idle s (begun e) = start-both s e
  reached-idle s (stepped {s = t} w e) = step_both t s e (reached-idle t w)

  -- so it has the facts
  pub reached_reachable : (s : Solver) → Reached limit g assumptions s → Reachable limit g assumptions s
  reached_reachable s w = let x = reached-idle s w in core_reachable limit g assumptions s pos x.0.core x.1

  -- and its total is the sum of the lengths of the learned clauses
  pub reached-total : (s : Solver) → Reached limit g assumptions s → s.learned ≡ literal_count (drop (length C) s.clauses)
  reached-total s w = core-total (length g) C s (reached-idle s w).0.core

  -- and its watch lists are exact: a clause stands in the list of a literal as often as it watches it
  pub reached-exact : (s : Solver) → Reached limit g assumptions s → Exact s
  reached-exact s w = (reached-idle s w).0.exact

  -- ---- kept by each step

  -- one round of propagation
  pub round_keeps : (s : Solver) → Idle (length g) C s → RoundOk (length g) C (propagate_round s)
  unfolding propagate_round
  round_keeps s w = assigned_ok (length g) C s (get_elem? s.assignment.trail s.assignment.propagation_head) refl w

  -- its beginning: the watch list of the literal at the head is taken
  pub take-keeps : (s : Solver) (l : Literal) → Idle (length g) C s → get_elem? s.assignment.trail s.assignment.propagation_head ≡ some l
      → Busy (length g) C s.assignment.propagation_head (negate l) (get_or s.watches (negate l) []) (take_watches s (negate l))
  take-keeps s l w e = taken_busy (length g) C s l w e

  -- one pending clause
  pub visit-keeps : (p f id : ℕ) (ids : List ℕ) (s : Solver) → Busy (length g) C p f (id ∷ ids) s → VisitOk (length g) C p f ids (visit f id s)
  visit-keeps p f id ids s w = visit_ok (length g) C p f id ids s w

  -- a decision where all is propagated
  pub decision-keeps : (s : Solver) → Done (length g) C s → Keeps (Idle (length g) C) (AnswerOk (length g) C) (decide s (choose_variable s))
  decision-keeps s w = decide-keeps (length g) C s w

  -- the analysis of a conflict above level 0 ends
  pub analysis-keeps : (s : Solver) (w : Stuck (length g) C s) (id level : ℕ) → length s.assignment.trail_limits ≡ suc level → Conflicting s id w.place
      → AnalysisEnded (length g) s.clauses s.assignment (analyze s id)
  analysis-keeps s w id level e c = analysis-ends (length g) C limit s w level e id c

  -- the learned clause added
  pub learn-keeps : (s : Solver) (w : Stuck (length g) C s) → 0 < length s.assignment.trail_limits → (scores : Scores) → length scores.activity ≡ length g
      → (a : Analysis) (p : Literal) → Analyzed (length g) s.clauses s.assignment a p → Idle (length g) C (learn s scores (negate p) a.learned)
  learn-keeps s w h scores size a p z = learn-idle (length g) C s w h scores a p z size
