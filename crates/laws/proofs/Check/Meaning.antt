-- What a check says: the verdict of the search is what k-induction says, and the trace of a difference replays yes. Assumes nothing.
use Rattle.std.specs.Prelude.{ℕ, ◌≤◌, ◌≡◌, Bool, true, false}
use Rattle.std.proofs.Common.{arith, sym, inl, inr}
use Rattle.std.proofs.Math.Path.{subst}
use mathlib.Core.List.{List}
use Rattle.model.specs.Answers as Answers
use Rattle.model.specs.Options.{Options}
use Rattle.model.specs.Netlist.{Design}
use Rattle.model.specs.Run.{StoredBits}
use Rattle.model.specs.Induction.{Query1, Query2, Query3, Query4, Closes, Undecided, UndecidedBelow, Says, not_equivalent, equivalent, inconclusive}
use Rattle.model.specs.Literal.{Literal}
use Rattle.model.specs.Aig.{evaluate, aig_node_values}
use Rattle.model.specs.Sat.{model, no_model}
use Rattle.model.specs.Equivalence.{Problem, Query, base_counterexample, base_preserves_named_state, induction_closes, ask, first_mismatch, trace_bytes, Verdict, Equivalent, NotEquivalent, Inconclusive, GaveUp, OutOfFuel, not_equivalent_at}
use Rattle.model.specs.Check.{problem_of, check_designs}
use Rattle.laws.specs.Terms.{Comparable, TraceGood, NoModel, Model, NamedOpen, Passed}
use Rattle.laws.proofs.Check.Course.{Decides, differs, closes_named, closes, stops, Decides0, differs_0, stops_0, Course, decides_0, decides, passes, verdict_course}
use Rattle.laws.specs.Search.Model.{refutes, finds}
use Rattle.facts.specs.Lists.{All}
use Rattle.laws.specs.Queries.Base.{Satisfies, query_1_from, query_1_to, query_2_from, query_2_to}
use Rattle.laws.specs.Queries.Step.{query_3_from, query_3_to, query_4_from, query_4_to}
use Rattle.laws.specs.Queries.Replayed.{trace-replays}
use Rattle.laws.specs.Queries.Formed.{Askable, query_1_askable, query_2_askable, query_3_4_askable}

-- what a model gives of a query
pub record Witness (q : Query) (values : List Bool) : Type 0 where
  pub environment : ℕ → Bool
  pub values_are : values ≡ aig_node_values environment q.aig
  pub satisfies : Satisfies environment q

-- a verdict that k-induction says, with a trace that replays yes; nothing is said where the search gives up
abbrev pub Spoken : Design → Design → StoredBits → StoredBits → ℕ → Verdict → Type 0
Spoken gold gate s t D (Equivalent d) = Says gold gate s t D Answers.Equivalent d
Spoken gold gate s t D (NotEquivalent d m bytes) = Says gold gate s t D Answers.NotEquivalent d × TraceGood gold gate s t d m bytes
Spoken gold gate s t D (Inconclusive d) = Says gold gate s t D Answers.Inconclusive d
Spoken gold gate s t D (GaveUp d q) = Unit {0}
Spoken gold gate s t D OutOfFuel = Unit {0}

module _ (limit : ℕ) where
  -- a query with no model: no environment makes its assumptions true
  pub refuted : (q : Query) (n : ℕ) → Askable q → ask limit q ≡ no_model n → (e : ℕ → Bool) → Satisfies e q → ⊥
  unfolding ask
  refuted q n a h e s = refutes limit q.aig q.assumptions n a.formed a.inside h e s

  -- a query with a model: its values are an environment's, and make the assumptions true
  pub found : (q : Query) (values : List Bool) (n : ℕ) → Askable q → ask limit q ≡ model values n → Witness q values
  unfolding ask
  found q values n a h =
      let r = finds limit q.aig q.assumptions values n a.formed a.named a.inside h in
      record { environment = r.0; values_are = r.1; satisfies = subst (λ (v : List Bool). All (λ (l : Literal). evaluate v l ≡ true) q.assumptions) r.1 r.2 }

  module _ (gold gate : Design) (c : Comparable gold gate) (s t : StoredBits) where
    -- the problem of the two designs from the start bits
    abbrev p : Problem
    p = problem_of gold gate s t

    -- a query with no model, and one with a model, answer its question
    pub no_1 : (d : ℕ) → NoModel limit (base_counterexample p d) → ¬ Query1 gold gate s t d
    no_1 d x q = let r = query_1_to gold gate c.gold_valid c.gate_valid c.input_names s t d q in refuted _ x.0 (query_1_askable p d) x.1 r.0 r.1

    -- the same of query 2
    pub no_2 : (d : ℕ) → NoModel limit (base_preserves_named_state p d) → ¬ Query2 gold gate s t d
    no_2 d x q = let r = query_2_to gold gate c.gold_valid c.gate_valid c.input_names s t d q in refuted _ x.0 (query_2_askable p d) x.1 r.0 r.1

    -- of query 3
    pub no_3 : (d : ℕ) → NoModel limit (induction_closes p true d) → ¬ Query3 gold gate d
    no_3 d x q = let r = query_3_to gold gate c.gold_valid c.gate_valid c.input_names s t d q in refuted _ x.0 (query_3_4_askable p true d) x.1 r.0 r.1

    -- and of query 4
    pub no_4 : (d : ℕ) → NoModel limit (induction_closes p false d) → ¬ Query4 gold gate d
    no_4 d x q = let r = query_4_to gold gate c.gold_valid c.gate_valid c.input_names s t d q in refuted _ x.0 (query_3_4_askable p false d) x.1 r.0 r.1

    -- a model of query 1 is a yes to its question
    pub yes_1 : (d : ℕ) → Model limit (base_counterexample p d) → Query1 gold gate s t d
    yes_1 d x = let r = found _ x.0 x.1 (query_1_askable p d) x.2 in query_1_from gold gate c.gold_valid c.gate_valid c.input_names s t d r.environment r.satisfies

    -- the same of query 2
    pub yes_2 : (d : ℕ) → Model limit (base_preserves_named_state p d) → Query2 gold gate s t d
    yes_2 d x = let r = found _ x.0 x.1 (query_2_askable p d) x.2 in query_2_from gold gate c.gold_valid c.gate_valid c.input_names s t d r.environment r.satisfies

    -- of query 3
    pub yes_3 : (d : ℕ) → Model limit (induction_closes p true d) → Query3 gold gate d
    yes_3 d x = let r = found _ x.0 x.1 (query_3_4_askable p true d) x.2 in query_3_from gold gate c.gold_valid c.gate_valid c.input_names s t d r.environment r.satisfies

    -- and of query 4
    pub yes_4 : (d : ℕ) → Model limit (induction_closes p false d) → Query4 gold gate d
    yes_4 d x = let r = found _ x.0 x.1 (query_3_4_askable p false d) x.2 in query_4_from gold gate c.gold_valid c.gate_valid c.input_names s t d r.environment r.satisfies

    named_open : (d : ℕ) → NamedOpen limit p d → ((¬ Query2 gold gate s t d) × (¬ Query3 gold gate d)) → ⊥
    named_open d (inl x) f = f.0 (yes_2 d x)
    named_open d (inr x) f = f.1 (yes_3 d x.1)

    -- a depth that is passed is undecided
    passed_undecided : (d : ℕ) → Passed limit p d → Undecided gold gate s t d
    passed_undecided d w = record { same = no_1 d w.first; open_ended = open_ended_lem }
      where
        open_ended_lem : Closes gold gate s t d → ⊥
        open_ended_lem (inl x) = named_open d w.named x
        open_ended_lem (inr x) = x (yes_4 d w.last)

    -- the trace of a model of query 1 replays yes, within its cycles
    pub model-replays : (d : ℕ) (values : List Bool) (n : ℕ) → ask limit (base_counterexample p d) ≡ model values n
        → TraceGood gold gate s t d (first_mismatch values (base_counterexample p d).comparisons)
        (trace_bytes values (base_counterexample p d).comparisons (first_mismatch values (base_counterexample p d).comparisons))
    model-replays d values n e =
        let r = found _ values n (query_1_askable p d) e in
        let q = base_counterexample p d in
        subst (λ (v : List Bool). TraceGood gold gate s t d (first_mismatch v q.comparisons) (trace_bytes v q.comparisons (first_mismatch v q.comparisons))) (sym r.values_are)
        (trace-replays gold gate c.gold_valid c.gate_valid c.input_names s t c.output_names d r.environment r.satisfies)

    decided_spoken : (D d : ℕ) (v : Verdict) → 1 ≤ d → d ≤ D → UndecidedBelow gold gate s t d → Decides limit p d v → Spoken gold gate s t D v
    unfolding not_equivalent_at
    decided_spoken D d v low high before (differs values n e) = (not_equivalent low high before (yes_1 d (values, n, e)), model-replays d values n e)
    decided_spoken D d v low high before (closes_named f x y) = equivalent low high before (no_1 d f) (inl (no_2 d x, no_3 d y))
    decided_spoken D d v low high before (closes f x y) = equivalent low high before (no_1 d f) (inr (no_4 d y))
    decided_spoken D d v low high before (stops x) = tt

    -- a difference in cycle 0 is one of depth 1
    decided_0_spoken : (D : ℕ) (v : Verdict) → 1 ≤ D → Decides0 limit p v → Spoken gold gate s t D v
    unfolding not_equivalent_at
    decided_0_spoken D v high (differs_0 values n e) =
        let x = yes_1 0 (values, n, e) in
        let r = model-replays 0 values n e in (
          not_equivalent {d = 1} (omega arith) high (λ i a b. absurd (omega arith)) (record { ins = x.ins; cycle = x.cycle; within = omega (arith, x.within); differ = x.differ }),
          record { replay = r.replay; early = omega (arith, r.early); size = r.size; bits = r.bits },
        )
    decided_0_spoken D v high (stops_0 x) = tt

    course_spoken : (earliest : Bool) (D : ℕ) (v : Verdict) → Course earliest limit p D v → Spoken gold gate s t D v
    course_spoken earliest D v (decides_0 mode low w) = decided_0_spoken D v low w
    course_spoken earliest D v (decides d low high first passed w) = decided_spoken D d v low high (λ e a b. passed_undecided e (passed e a b)) w
    course_spoken earliest D v (passes first f) = inconclusive (λ e a b. passed_undecided e (f e a (omega arith)))

-- the verdict of a check is what k-induction says from the start bits, and its trace replays yes
pub designs_speak : (o : Options) (gold gate : Design) → Comparable gold gate → (s t : StoredBits) → Spoken gold gate s t o.depth (check_designs o gold gate s t).verdict
unfolding check_designs
designs_speak o gold gate c s t = course_spoken o.limit gold gate c s t o.earliest o.depth _ (verdict_course o.limit (problem_of gold gate s t) o.earliest o.depth)
