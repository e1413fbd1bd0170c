-- A round of the search keeps the invariant; a model makes the original clauses true, and no model means that nothing does. Assumes nothing.
use Prim.Native.Nat.{ℕ, zero, suc, ◌+◌, ◌-◌, ◌*◌, ◌/◌, ◌≤◌, ◌<◌}
use native.Mathlib.Omega.{arith}
use Rattle.std.specs.Prelude.{◌≡◌, ◌≢◌, Bool, List, map, length, drop, ltb}
use Rattle.std.proofs.Math.Path.{refl, ap, subst}
use Rattle.std.proofs.Common.{sym, ◌∙◌, get_or-drop}
use Rattle.std.proofs.Math.Bool.{true, false, xor as xor_bool}
use Rattle.std.proofs.Math.Option.{Option, none, some}
use Rattle.std.proofs.Math.ListN.{get_or, length-drop, get_or-map}
use Rattle.std.proofs.lemmas.List.{length-map}
use Rattle.model.specs.Literal.{Literal, node, inverted, negate}
use Rattle.model.specs.Aig.{evaluate}
use Rattle.laws.specs.Graph.Values.{Grounded}
use Rattle.laws.specs.Search.Analysis.{Analyzed, AnalysisEnded, analyze-ends}
use Rattle.facts.specs.Bools.{by_cond}
use Rattle.facts.specs.Numbers.{by_lt}
use Rattle.laws.specs.Lists.{snoc-all}
use Rattle.laws.specs.Search.Loop.{Keeps}
use Rattle.laws.specs.Search.Values.{negate-true, negate-negate, literal-unset, unset-literal}
use Rattle.laws.specs.Search.Clauses.{lits, clause_value, Satisfied, literal-true-at, true-literal}
use Rattle.laws.specs.Search.Trail.{Low, Range, TrailInv}
use Rattle.laws.specs.Search.Reasons.{Justified, Rests, justified-assign, justified-decide, bottom_false}
use Rattle.laws.specs.Search.Watches.{Safe, Pair, pair-map, fixed-assign, safe_assign, fixed_push, safe_push}
use Rattle.laws.specs.Search.State.{clause_at, Idle, Done, Stuck, Conflicting, RoundOk, core-assignment}
use Rattle.laws.specs.Search.Propagation.{propagate-keeps}
use Rattle.laws.specs.Search.Choice.{from-none, ChoiceOk, from_ok}
use Rattle.laws.specs.Search.Learning.{learn-idle, learned_rests, learned-range, asserted-not-false}
use Rattle.model.specs.Sat.{Value, False, Unassigned, True, Clause, Assignment, Scores, Solver, with_assignment, watched0, watched1, literal_value, value, decision_level, assign, enqueue_valued, enqueue, push_limit, Propagation, propagating, complete, conflict, propagate, Analysis, Resolution, resolving, resolved, analyze, decay_activity}
use Rattle.model.specs.Sat.{Choice, no_choice, chosen, choose_variable, Answer, model, no_model, gave_up, out_of_fuel, is_true, decision, decide, after_enqueue, learn, assert_learned, learn_unless, after_analysis, after_conflict, after_propagation, step}

-- ---- values

-- the value of a variable in the model
model_at : (t : Assignment) (v : ℕ) → get_or (map is_true t.assignments) v false ≡ is_true (get_or t.assignments v Unassigned)
unfolding is_true
model_at t v = get_or-map is_true t.assignments v Unassigned

true-xor : (i : Bool) (v : Value) → literal_value i v ≡ True → xor_bool (is_true v) i ≡ true
unfolding literal_value is_true xor_bool
true-xor true False e = refl
true-xor true Unassigned e = absurd (let z : ◌≡◌ {A = ℕ} 0 1 = cc in omega arith)
true-xor true True e = absurd (let z : ◌≡◌ {A = ℕ} 0 1 = cc in omega arith)
true-xor false False e = absurd (let z : ◌≡◌ {A = ℕ} 0 1 = cc in omega arith)
true-xor false Unassigned e = absurd (let z : ◌≡◌ {A = ℕ} 0 1 = cc in omega arith)
true-xor false True e = refl

-- a true literal evaluates to true
value-evaluate : (t : Assignment) (l : Literal) → value t l ≡ True → evaluate (map is_true t.assignments) l ≡ true
unfolding value evaluate
value-evaluate t l e = rw (model_at t (node l)) (true-xor (inverted l) (get_or t.assignments (node l) Unassigned) e)

-- ---- a model

module _ (n : ℕ) (C : List Clause) where
  -- what a model's values are; no model: nothing makes the original clauses true
  pub record ModelOk (values : List Bool) : Type 0 where
    pub size : length values ≡ n
    pub grounding : Grounded values
    pub clauses_true : Satisfied values C

  -- what an answer must be
  abbrev pub AnswerOk : Answer → Type 0
  AnswerOk (model values k) = ModelOk values
  AnswerOk (no_model k) = (vs : List Bool) → Satisfied vs C → ⊥
  AnswerOk (gave_up k) = Unit {0}
  AnswerOk (out_of_fuel k) = Unit {0}

  module _ (s : Solver) (w : Done n C s) where
    -- the assignment, wholly propagated
    abbrev t : Assignment
    t = s.assignment

    -- its trail's invariant
    abbrev inv : TrailInv n t
    inv = w.idle.core.justified.trail_inv

    -- variable 0 is not assigned
    grounding-value : (v : Value) → get_or t.assignments 0 Unassigned ≡ v → is_true v ≡ false
    unfolding is_true value node inverted literal_value
    grounding-value False e = refl
    grounding-value Unassigned e = refl
    grounding-value True e =
        let o = inv.on_trail 0 (rw e) in
        absurd (omega (arith, (inv.range o.0 o.1).0, o.2))

    module _ (All-set : (v : ℕ) → 1 ≤ v → v < n → get_or t.assignments v Unassigned ≢ Unassigned) where
      -- the values of the model
      abbrev vs : List Bool
      vs = map is_true t.assignments

      -- a watched pair has a true literal
      pair-true : (ls : List Literal) (i j : ℕ) → i < length ls → j < length ls → ((i : ℕ) → i < length ls → Range n (get_or ls i 0)) → (x : Literal) → x ≡ get_or ls i 0
          → Pair t t.propagation_head x (get_or ls j 0) → clause_value vs ls ≡ true
      unfolding value
      pair-true ls i j hi hj range x is q = go (value t x) refl
        where
          go : (v : Value) → value t x ≡ v → clause_value vs ls ≡ true
          go True e = literal-true-at vs ls i hi (value-evaluate t (get_or ls i 0) (ap (value t) (sym is) ∙ e))
          go Unassigned e =
              let r = subst (Range n) (sym is) (range i hi) in
              absurd (All-set (node x) r.0 r.1 (unset-literal (inverted x) (get_or t.assignments (node x) Unassigned) e))
          go False e =
              let o = inv.on_trail (negate x) (negate-true t x e) in
              let b = q.safe0 o.0 (omega (arith, o.1, w.end)) (sym (negate-negate x) ∙ ap negate (sym o.2)) in
              literal-true-at vs ls j hj (value-evaluate t (get_or ls j 0) (ap (value t) (sym b.2) ∙ inv.true_at b.0 b.1))

      filled : (id : ℕ) → id < length C → 0 < length (lits C id)
      filled id h = omega (arith, (w.idle.core.places id (omega (arith, w.idle.core.count))).first, ap length (w.idle.core.kept id h))

      orig_true : (id : ℕ) → id < length C → clause_value vs (lits C id) ≡ true
      unfolding watched0 watched1
      orig_true id h =
          by_lt 1 (length (lits C id))
          (λ two.
          subst (λ ls. clause_value vs ls ≡ true) (w.idle.core.kept id h)
          (let c = clause_at s id in let k = w.idle.core.places id (omega (arith, w.idle.core.count)) in
          pair-true c.literals c.watched.0 c.watched.1 k.first k.second (w.idle.core.in_range id) (watched0 c) refl (w.idle.pairs id h two)))
          (λ one.
          let o = w.idle.core.units id h (omega (arith, filled id h)) in
          literal-true-at vs (lits C id) 0 (filled id h)
          (value-evaluate t (get_or (lits C id) 0 0) (ap (value t) (sym o.2) ∙ inv.true_at o.0 o.1)))

      model_ok : ModelOk vs
      model_ok =
          record {
            size = length-map t.assignments is_true ∙ inv.size;
            grounding = model_at t 0 ∙ grounding-value (get_or t.assignments 0 Unassigned) refl;
            clauses_true = orig_true;
          }

    -- ---- the decision

    -- the variable is unassigned
    abbrev Open : ℕ → Type 0
    Open v = (1 ≤ v) × (v < n) × (get_or t.assignments v Unassigned ≡ Unassigned)

    decision-node : (v : ℕ) → node (decision t v) ≡ v
    unfolding decision node
    decision-node v = by_cond (λ x. x / 2 ≡ v) {t = get_or t.phases v false} {x = v * 2} {y = v * 2 + 1} (λ _. omega arith) (λ _. omega arith)

    decision-unset : (v : ℕ) → Open v → value (push_limit t) (decision t v) ≡ Unassigned
    unfolding value push_limit
    decision-unset v o =
        literal-unset (inverted (decision t v)) (get_or t.assignments (node (decision t v)) Unassigned)
        (subst (λ x. get_or t.assignments x Unassigned ≡ Unassigned) (sym (decision-node v)) o.2)

    decision-justified : (v : ℕ) → Open v → Justified n C s.clauses (assign (push_limit t) (decision t v) none)
    decision-justified v o =
        justified-decide n t C s.clauses (decision t v) w.idle.core.justified (omega (arith, o.0, decision-node v), omega (arith, o.1, decision-node v)) (decision-unset v o)

    decision-low : (v : ℕ) → Low t.propagation_head (assign (push_limit t) (decision t v) none)
    unfolding assign push_limit
    decision-low v = snoc-all 0 (λ i x. x ≤ t.propagation_head) t.trail_limits (length t.trail) w.idle.low w.end

    decision_safe : (v : ℕ) (x k : Literal) → Safe t t.propagation_head x k → Safe (assign (push_limit t) (decision t v) none) t.propagation_head x k
    unfolding push_limit
    decision_safe v x k q = safe_assign (push_limit t) (decision t v) none t.propagation_head inv.head x k (safe_push t t.propagation_head x k q)

    -- an unassigned variable decided
    decided-idle : (v : ℕ) → Open v → Idle n C (with_assignment s (assign (push_limit t) (decision t v) none))
    unfolding with_assignment assign push_limit
    decided-idle v o =
        record {
          core =
              core-assignment n C s (assign (push_limit t) (decision t v) none) (decision-justified v o)
              (λ k q. fixed-assign (push_limit t) (decision t v) none k (fixed_push t k q)) w.idle.core;
          exact = w.idle.exact;
          low = decision-low v;
          pairs = λ id h two. pair-map (decision_safe v) (w.idle.pairs id h two);
        }

    -- every variable is looked at
    open_from : (i : ℕ) → i < length (drop 1 t.assignments) → get_or (drop 1 t.assignments) i Unassigned ≡ Unassigned → Open (1 + i)
    open_from i h e = (omega arith, omega (arith, length-drop 1 t.assignments, inv.size), sym (get_or-drop 1 t.assignments i Unassigned) ∙ e)

    none-set : choose_variable s ≡ no_choice → (v : ℕ) → 1 ≤ v → v < n → get_or t.assignments v Unassigned ≢ Unassigned
    unfolding choose_variable
    none-set e v a b q =
        let z : 1 + (v - 1) ≡ v = omega arith in
        (from-none (drop 1 t.assignments) (drop 1 s.scores.activity) 1 no_choice e).1 (v - 1) (omega (arith, length-drop 1 t.assignments, inv.size))
        (omega (arith, length-drop 1 s.scores.activity, w.idle.core.activity_size))
        (get_or-drop 1 t.assignments (v - 1) Unassigned ∙ ap (λ i. get_or t.assignments i Unassigned) z ∙ q)

    decide_ok : (c : Choice) → choose_variable s ≡ c → ChoiceOk Open c → Keeps (Idle n C) AnswerOk (decide s c)
    unfolding decide
    decide_ok no_choice e h = model_ok (none-set e)
    decide_ok (chosen v x) e h = decided-idle v h

    -- a decision, or the model where every variable is assigned
    pub decide-keeps : Keeps (Idle n C) AnswerOk (decide s (choose_variable s))
    decide-keeps =
        decide_ok (choose_variable s) refl
        (unfold choose_variable in from_ok Open (drop 1 t.assignments) (drop 1 s.scores.activity) 1 no_choice open_from tt)

  -- ---- a literal enqueued between rounds

  enqueue-idle : (s : Solver) (l : Literal) (r : Option ℕ) → Range n l → Rests s.clauses s.assignment l r → Idle n C s → value s.assignment l ≡ Unassigned
      → Idle n C (with_assignment s (assign s.assignment l r))
  unfolding with_assignment assign
  enqueue-idle s l r h b w e =
      let t = s.assignment in
      record {
        core = core-assignment n C s (assign t l r) (justified-assign n C s.clauses t l r w.core.follow w.core.justified h e b) (fixed-assign t l r) w.core;
        exact = w.exact;
        low = w.low;
        pairs = λ id q two. pair-map (safe_assign t l r t.propagation_head w.core.justified.trail_inv.head) (w.pairs id q two);
      }

  enqueued-keeps : (s : Solver) (l : Literal) (r : Option ℕ) → Range n l → Rests s.clauses s.assignment l r → (value s.assignment l ≡ False → ⊥) → Idle n C s
      → (v : Value) → value s.assignment l ≡ v → Keeps (Idle n C) AnswerOk (after_enqueue s (enqueue_valued s.assignment l r v))
  unfolding after_enqueue enqueue_valued with_assignment
  enqueued-keeps s l r h b f w True e = w
  enqueued-keeps s l r h b f w False e = absurd (f e)
  enqueued-keeps s l r h b f w Unassigned e = enqueue-idle s l r h b w e

  -- ---- after a conflict

  module _ (limit : ℕ) (s : Solver) (w : Stuck n C s) (d : ℕ) (top : length s.assignment.trail_limits ≡ suc d) where
    some_level : 0 < length s.assignment.trail_limits
    some_level = omega arith

    learn-keeps : (a : Analysis) (p : Literal) (scores : Scores) (b : Bool) → length scores.activity ≡ n → Analyzed n s.clauses s.assignment a p
        → Keeps (Idle n C) AnswerOk (learn_unless s scores (negate p) a.learned b)
    unfolding learn_unless assert_learned enqueue
    learn-keeps a p scores true size z = tt
    learn-keeps a p scores false size z =
        let u = learn s scores (negate p) a.learned in
        enqueued-keeps u (negate p) (some (length s.clauses)) (learned-range n C s w some_level scores a p z size) (learned_rests n C s w some_level scores a p z size)
        (asserted-not-false n C s w some_level scores a p z size) (learn-idle n C s w some_level scores a p z size) (value u.assignment (negate p)) refl

    analysis-keeps : (r : Resolution) → AnalysisEnded n s.clauses s.assignment r → Keeps (Idle n C) AnswerOk (after_analysis limit s r)
    unfolding after_analysis decay_activity
    analysis-keeps (resolving a i id v) h = absurd h
    analysis-keeps (resolved a p) h =
        learn-keeps a p (decay_activity a.scores) (ltb limit (s.learned + suc (length a.learned))) h.size h

    -- the analysis ends
    pub analysis-ends : (id : ℕ) → Conflicting s id w.place → AnalysisEnded n s.clauses s.assignment (analyze s id)
    analysis-ends id c =
        analyze-ends n s w.core.justified.trail_inv d top w.core.justified.reasoned w.core.in_range w.core.activity_size id w.place
        (omega (arith, w.at_head, w.core.justified.trail_inv.head)) (w.low d (omega arith)) c

  -- a conflict at level 0: the clause's literals are all false
  conflict_refutes : (s : Solver) (id : ℕ) → length s.assignment.trail_limits ≡ 0 → (w : Stuck n C s) → Conflicting s id w.place → (vs : List Bool) → Satisfied vs C → ⊥
  conflict_refutes s id e w c vs sat =
      let x = true-literal vs (lits s.clauses id) (w.core.follow vs sat id c.known) in
      bottom_false vs s.assignment (length s.assignment.trail) (get_or (lits s.clauses id) x.0 0) (w.core.justified.grounding vs sat) (omega arith)
      (λ q h i k. absurd (omega arith)) (c.all x.0 x.1) x.2

  conflict-keeps : (limit : ℕ) (s : Solver) (id level : ℕ) → length s.assignment.trail_limits ≡ level → (w : Stuck n C s) → Conflicting s id w.place
      → Keeps (Idle n C) AnswerOk (after_conflict limit s id level)
  unfolding after_conflict
  conflict-keeps limit s id zero e w c = conflict_refutes s id e w c
  conflict-keeps limit s id (suc level) e w c = analysis-keeps limit s w level e (analyze s id) (analysis-ends limit s w level e id c)

  propagation_keeps : (limit : ℕ) (r : Propagation) → RoundOk n C r → Keeps (Idle n C) AnswerOk (after_propagation limit r)
  unfolding after_propagation decision_level
  propagation_keeps limit (propagating s) w = tt
  propagation_keeps limit (complete s) w = decide-keeps s w
  propagation_keeps limit (conflict id s) w = conflict-keeps limit s id (length s.assignment.trail_limits) refl w.0 w.1

  -- a round of the search
  pub step_keeps : (limit : ℕ) (s : Solver) → Idle n C s → Keeps (Idle n C) AnswerOk (step limit s)
  unfolding step
  step_keeps limit s w = propagation_keeps limit (propagate s) (propagate-keeps n C s w)
