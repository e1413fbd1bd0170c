-- Queries 2, 3 and 4 of a depth, one after another: what they decide is what the model decides. Assumes nothing.
use Rattle.std.specs.Prelude.{◌≡◌, Bool, true, false, List, ℕ, Float}
use Rattle.std.proofs.Math.Path.{refl}
use Rattle.std.proofs.Common.{ap, sym, subst, ◌∙◌}
use Rattle.model.specs.Answers as Numbers
use Rattle.model.specs.Sat as Sat
use Rattle.model.specs.Equivalence as Model
use Rattle.model.specs.Equivalence.{Proving, undecided, decided, base_preserves_named_state, induction_closes, asked_too, after_query4, query4, after_query3, after_query2}
use Rattle.model.specs.Check.{verdict_answer, verdict_trace}
use Rattle.calls.specs.declared.answers.Asked.{Asked}
use Rattle.unrolling.specs.Side.{Untouched}
use Rattle.sat.specs.SolveLaws.{search_answer}
use Rattle.sat.specs.declared.state.Answer.{Answer}
use Rattle.sat.specs.declared.state.Answer.TheVariants as Answers
use Rattle.queries.specs.Problem.{StandsFor, answer_of_verdict}
use Rattle.queries.specs.Untouched.{untouched_both}
use Rattle.queries.specs.Querying.{Queryable, stands_for_kept, Queried}
use Rattle.queries.specs.declared.problem.Problem.{Problem}
use Rattle.queries.specs.declared.problem.Outcome.{Outcome}
use Rattle.queries.specs.declared.problem.Verdict.TheVariants as Verdicts
use Rattle.depths.specs.Most.{MostOf, Counted, counted-more}
use Rattle.std.specs.declared.ops.ControlFlow.{ControlFlow}
use Rattle.std.specs.declared.ops.ControlFlow.TheVariants.{Continue, Break}

-- the decision is the model's, the trace goes from t to t' as the model's verdict says, and the most learned is that of the queries asked, begun at `first`
abbrev pub Agrees : Numbers.Asked → ControlFlow Outcome Asked → List ℕ → List ℕ → Proving → Type 0
Agrees first (Continue m) t t' (undecided asked) = (t' ≡ t) × MostOf first asked m
Agrees first (Continue m) t t' (decided u asked) = ⊥
Agrees first (Break o) t t' (undecided asked) = ⊥
Agrees first (Break o) t t' (decided u asked) =
    ((a : Numbers.Asked) → answer_of_verdict o.verdict a ≡ verdict_answer u a) × (t' ≡ verdict_trace u t) × MostOf first asked o.most

-- From w to w' queries were asked that write no trace, and what is decided is the model's, whatever was asked before, of which m learned most.
pub record Decides (x : Problem) (goal : Model.Problem → List Numbers.Asked → Proving) (w : List ℕ) (m : Asked) (r : ControlFlow Outcome Asked) (w' : List ℕ) : Type 0 where
  pub is : (p : Model.Problem) → StandsFor x w p → (first : Numbers.Asked) (earlier : List Numbers.Asked) (t : List ℕ) → MostOf first earlier m → Agrees first r t t (goal p earlier)
  pub kept : Untouched w w'

-- the number of the query by induction, with named states included or without them
abbrev pub induction_number : Bool → ℕ
induction_number true = 3
induction_number false = 4

-- after that query, without the one that may follow it
unfoldable pub after_induction : Bool → ℕ → List Numbers.Asked → Sat.Answer → Proving
after_induction include d earlier (Sat.model values n) = undecided (asked_too earlier d (induction_number include) n)
after_induction include d earlier (Sat.no_model n) = decided (Model.Equivalent d) (asked_too earlier d (induction_number include) n)
after_induction include d earlier (Sat.gave_up n) = decided (Model.GaveUp d (induction_number include)) (asked_too earlier d (induction_number include) n)
after_induction include d earlier (Sat.out_of_fuel n) = decided Model.OutOfFuel (asked_too earlier d (induction_number include) n)

-- that query asked
abbrev pub goal_induction : Bool → ℕ → ℕ → Model.Problem → List Numbers.Asked → Proving
goal_induction include limit d p earlier = after_induction include d earlier (Model.ask limit (induction_closes p include d))

-- query 4 as the model asks it
abbrev pub goal4 : ℕ → ℕ → Model.Problem → List Numbers.Asked → Proving
goal4 limit d p earlier = after_query4 d earlier (Model.ask limit (induction_closes p false d))

-- query 3, and what follows it
abbrev pub goal3 : ℕ → ℕ → Model.Problem → List Numbers.Asked → Proving
goal3 limit d p earlier = after_query3 limit p d earlier (Model.ask limit (induction_closes p true d))

-- query 2, and what follows it
abbrev pub goal2 : ℕ → ℕ → Model.Problem → List Numbers.Asked → Proving
goal2 limit d p earlier = after_query2 limit p d earlier (Model.ask limit (base_preserves_named_state p d))

module _ (x : Problem) (limit d : ℕ) (w : List ℕ) where
  -- without named states it is query 4
  pub as_query4 : (m : Asked) (r : ControlFlow Outcome Asked) (w₁ : List ℕ) → Decides x (goal_induction false limit d) w m r w₁ → Decides x (goal4 limit d) w m r w₁
  unfolding after_induction after_query4
  as_query4 m r w₁ b =
      record { is = λ p k first earlier t o. subst (λ (y : Proving). Agrees first r t t y) (same earlier (Model.ask limit (induction_closes p false d))) (b.is p k first earlier t o); kept = b.kept }
    where
      same : (earlier : List Numbers.Asked) (y : Sat.Answer) → after_induction false d earlier y ≡ after_query4 d earlier y
      same earlier (Sat.model values n) = refl
      same earlier (Sat.no_model n) = refl
      same earlier (Sat.gave_up n) = refl
      same earlier (Sat.out_of_fuel n) = refl

  -- with them it is query 3, where it decides
  pub break_3 : (m : Asked) (r : ControlFlow Outcome Asked) (w₁ : List ℕ) → Decides x (goal_induction true limit d) w m r w₁ → (u : Outcome) → r ≡ Break u → Decides x (goal3 limit d) w m (Break u) w₁
  unfolding after_induction after_query3
  break_3 m r w₁ b u e =
      record { is = λ p k first earlier t o. same p first earlier t (Model.ask limit (induction_closes p true d)) (subst (λ (z : ControlFlow Outcome Asked). Agrees first z t t (goal_induction true limit d p earlier)) e (b.is p k first earlier t o)); kept = b.kept }
    where
      same : (p : Model.Problem) (first : Numbers.Asked) (earlier : List Numbers.Asked) (t : List ℕ) (y : Sat.Answer) → Agrees first (Break u) t t (after_induction true d earlier y) → Agrees first (Break u) t t (after_query3 limit p d earlier y)
      same p first earlier t (Sat.model values n) h = absurd h
      same p first earlier t (Sat.no_model n) h = h
      same p first earlier t (Sat.gave_up n) h = h
      same p first earlier t (Sat.out_of_fuel n) h = h

module _ (x : Problem) (limit d : ℕ) (w : List ℕ) (s : List Float) (a : Queryable x limit d w s) where
  module _ (query : Model.Problem → Model.Query) (after : Model.Problem → List Numbers.Asked → Sat.Answer → Proving) (r : Answer) (w₁ : List ℕ) (s₁ : List Float)
      (q : Queried x limit d query w r w₁ s₁) (u : Answer) (e : r ≡ u) (m : Asked) (z : ControlFlow Outcome Asked) where
    -- what holds of the model after the search's answer holds after the model's
    by_answer : (p : Model.Problem) → StandsFor x w p → (first : Numbers.Asked) (earlier : List Numbers.Asked) (t : List ℕ)
        → Agrees first z t t (after p earlier (search_answer q.nodes u w₁)) → Agrees first z t t (after p earlier (Model.ask limit (query p)))
    by_answer p k first earlier t h =
        subst (λ (y : Sat.Answer). Agrees first z t t (after p earlier y)) (ap (λ (y : Answer). search_answer q.nodes y w₁) (sym e) ∙ q.is p k) h

    -- the query decides
    at_once : ((p : Model.Problem) (first : Numbers.Asked) (earlier : List Numbers.Asked) (t : List ℕ) → MostOf first earlier m
        → Agrees first z t t (after p earlier (search_answer q.nodes u w₁)))
        → Decides x (λ p earlier. after p earlier (Model.ask limit (query p))) w m z w₁
    at_once h = record { is = λ p k first earlier t o. by_answer p k first earlier t (h p first earlier t o); kept = q.kept }

    -- those after it decide
    by_next : (goal : Model.Problem → List Numbers.Asked → Proving) (more : List Numbers.Asked → List Numbers.Asked) (now : Asked) (w₂ : List ℕ) → Decides x goal w₁ now z w₂
        → ((first : Numbers.Asked) (earlier : List Numbers.Asked) → MostOf first earlier m → MostOf first (more earlier) now)
        → ((p : Model.Problem) (earlier : List Numbers.Asked) → goal p (more earlier) ≡ after p earlier (search_answer q.nodes u w₁))
        → Decides x (λ p earlier. after p earlier (Model.ask limit (query p))) w m z w₂
    by_next goal more now w₂ b c h =
        record {
          is = λ p k first earlier t o.
              by_answer p k first earlier t
              (subst (λ (y : Proving). Agrees first z t t y) (h p earlier)
              (b.is p (stands_for_kept x w w₁ a.paired q.kept p k) first (more earlier) t (c first earlier o)));
          kept = untouched_both q.kept b.kept;
        }

  module _ (include : Bool) (r : Answer) (w₁ : List ℕ) (s₁ : List Float) (q : Queried x limit d (λ p. induction_closes p include d) w r w₁ s₁)
      (m now : Asked) (c : Counted d (induction_number include) r m now) (k : ℕ) where
    -- the query by induction has a model: nothing is decided
    pub open_induction : r ≡ Answers.Model k → Decides x (goal_induction include limit d) w m (Continue now) w₁
    unfolding after_induction
    open_induction e = at_once _ (λ p earlier y. after_induction include d earlier y) r w₁ s₁ q _ e m _ (λ p first earlier t o. (refl, counted-more d _ r _ m now c e first earlier o))

    -- it has none: equivalent
    pub closed_induction : r ≡ Answers.NoModel k → Decides x (goal_induction include limit d) w m (Break (record { verdict = Verdicts.Equivalent d; most = now })) w₁
    unfolding after_induction answer_of_verdict verdict_answer verdict_trace
    closed_induction e =
        at_once _ (λ p earlier y. after_induction include d earlier y) r w₁ s₁ q _ e m _ (λ p first earlier t o. (λ y. refl, refl, counted-more d _ r _ m now c e first earlier o))

    -- its search gave up
    pub gave_up_induction : r ≡ Answers.GaveUp k → Decides x (goal_induction include limit d) w m (Break (record { verdict = Verdicts.GaveUp d (induction_number include); most = now })) w₁
    unfolding after_induction answer_of_verdict verdict_answer verdict_trace
    gave_up_induction e =
        at_once _ (λ p earlier y. after_induction include d earlier y) r w₁ s₁ q _ e m _ (λ p first earlier t o. (λ y. refl, refl, counted-more d _ r _ m now c e first earlier o))

  -- where the query with named states decides nothing, query 4 follows
  pub continue_3 : (m : Asked) (r : ControlFlow Outcome Asked) (w₁ : List ℕ) → Decides x (goal_induction true limit d) w m r w₁ → (now : Asked) → r ≡ Continue now
      → (z : ControlFlow Outcome Asked) (w₂ : List ℕ) → Decides x (goal4 limit d) w₁ now z w₂ → Decides x (goal3 limit d) w m z w₂
  unfolding after_induction after_query3 query4
  continue_3 m r w₁ b now e z w₂ f =
      record {
        is = λ p k first earlier t o.
            same p (stands_for_kept x w w₁ a.paired b.kept p k) first earlier t (Model.ask limit (induction_closes p true d))
            (subst (λ (y : ControlFlow Outcome Asked). Agrees first y t t (goal_induction true limit d p earlier)) e (b.is p k first earlier t o));
        kept = untouched_both b.kept f.kept;
      }
    where
      same : (p : Model.Problem) → StandsFor x w₁ p → (first : Numbers.Asked) (earlier : List Numbers.Asked) (t : List ℕ) (y : Sat.Answer)
          → Agrees first (Continue now) t t (after_induction true d earlier y) → Agrees first z t t (after_query3 limit p d earlier y)
      same p k first earlier t (Sat.model values n) h = f.is p k first _ t h.1
      same p k first earlier t (Sat.no_model n) h = absurd h
      same p k first earlier t (Sat.gave_up n) h = absurd h
      same p k first earlier t (Sat.out_of_fuel n) h = absurd h

  module _ (r : Answer) (w₁ : List ℕ) (s₁ : List Float) (q : Queried x limit d (λ p. induction_closes p true d) w r w₁ s₁) (m now : Asked) (c : Counted d 3 r m now) (k : ℕ) where
    -- query 3 has a model: query 4 follows
    pub open_3 : r ≡ Answers.Model k → (z : ControlFlow Outcome Asked) (w₂ : List ℕ) → Decides x (goal4 limit d) w₁ now z w₂ → Decides x (goal3 limit d) w m z w₂
    unfolding after_query3 query4
    open_3 e z w₂ b =
        by_next _ (λ p earlier y. after_query3 limit p d earlier y) r w₁ s₁ q _ e m z (goal4 limit d) (λ earlier. asked_too earlier d 3 k) now w₂ b (counted-more d 3 r _ m now c e) (λ p earlier. refl)

    -- it has none: equivalent
    pub closed_3 : r ≡ Answers.NoModel k → Decides x (goal3 limit d) w m (Break (record { verdict = Verdicts.Equivalent d; most = now })) w₁
    unfolding after_query3 answer_of_verdict verdict_answer verdict_trace
    closed_3 e =
        at_once _ (λ p earlier y. after_query3 limit p d earlier y) r w₁ s₁ q _ e m _ (λ p first earlier t o. (λ y. refl, refl, counted-more d 3 r _ m now c e first earlier o))

  module _ (r : Answer) (w₁ : List ℕ) (s₁ : List Float) (q : Queried x limit d (λ p. base_preserves_named_state p d) w r w₁ s₁) (m now : Asked) (c : Counted d 2 r m now) (k : ℕ) where
    -- query 2 has a model: query 4 follows
    pub differ_2 : r ≡ Answers.Model k → (z : ControlFlow Outcome Asked) (w₂ : List ℕ) → Decides x (goal4 limit d) w₁ now z w₂ → Decides x (goal2 limit d) w m z w₂
    unfolding after_query2 query4
    differ_2 e z w₂ b =
        by_next _ (λ p earlier y. after_query2 limit p d earlier y) r w₁ s₁ q _ e m z (goal4 limit d) (λ earlier. asked_too earlier d 2 k) now w₂ b (counted-more d 2 r _ m now c e) (λ p earlier. refl)

    -- it has none: query 3 follows
    pub alike_2 : r ≡ Answers.NoModel k → (z : ControlFlow Outcome Asked) (w₂ : List ℕ) → Decides x (goal3 limit d) w₁ now z w₂ → Decides x (goal2 limit d) w m z w₂
    unfolding after_query2
    alike_2 e z w₂ b =
        by_next _ (λ p earlier y. after_query2 limit p d earlier y) r w₁ s₁ q _ e m z (goal3 limit d) (λ earlier. asked_too earlier d 2 k) now w₂ b (counted-more d 2 r _ m now c e) (λ p earlier. refl)

    -- its search gave up
    pub gave_up_2 : r ≡ Answers.GaveUp k → Decides x (goal2 limit d) w m (Break (record { verdict = Verdicts.GaveUp d 2; most = now })) w₁
    unfolding after_query2 answer_of_verdict verdict_answer verdict_trace
    gave_up_2 e =
        at_once _ (λ p earlier y. after_query2 limit p d earlier y) r w₁ s₁ q _ e m _ (λ p first earlier t o. (λ y. refl, refl, counted-more d 2 r _ m now c e first earlier o))
