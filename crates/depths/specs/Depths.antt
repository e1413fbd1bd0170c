-- One depth with query 1, query 0, and the loop over depths: what is left gives what the whole gives. Assumes nothing.
use Rattle.std.specs.Prelude.{◌≡◌, length, Float}
use Rattle.std.proofs.Math.Path.{refl, ap, subst}
use Rattle.std.proofs.Common.{sym, ◌∙◌, mul-le-mul}
use mathlib.Core.List.{List, []}
use Prim.Native.Nat.{ℕ, zero, suc, ◌+◌, ◌-◌, ◌*◌, ◌≤◌, ◌<◌}
use native.Mathlib.Omega.{arith}
use Rattle.std.proofs.Math.Numerals.{add-one}
use Rattle.model.specs.Sat as Sat
use Rattle.model.specs.Answers as Numbers
use Rattle.model.specs.Answers.{accepted_answer, status_number}
use Rattle.model.specs.Equivalence as Model
use Rattle.model.specs.Equivalence.{Proving, undecided, decided, base_counterexample, trace_bytes, not_equivalent_at, asked_too, after_query1, query1, at_depth, depths, after_query0, query0, largest_from}
use Rattle.model.specs.Check.{overwrite, verdict_answer, verdict_trace}
use Rattle.calls.specs.Answers.{asked_of}
use Rattle.calls.specs.declared.answers.Asked.{Asked}
use Rattle.sat.specs.declared.state.Answer.{Answer}
use Rattle.sat.specs.declared.state.Answer.TheVariants as Answers
use Rattle.queries.specs.Problem.{StandsFor, Provable, answer_of_verdict}
use Rattle.unrolling.specs.Side.{Untouched}
use Rattle.queries.specs.Untouched.{untouched_none, untouched_both}
use Rattle.queries.specs.Querying.{Queryable, stands_for_kept, queryable_at, queryable_kept}
use Rattle.queries.specs.Finding.{FoundBy, Finds}
use Rattle.depths.specs.Most.{total_of, MostOf, Counted, counted-more}
use Rattle.depths.specs.Deciding.{Agrees, Decides, goal2}
use Rattle.queries.specs.declared.problem.Problem.{Problem}
use Rattle.queries.specs.declared.problem.Outcome.{Outcome}
use Rattle.queries.specs.declared.problem.Verdict.TheVariants as Verdicts
use Rattle.queries.specs.declared.query.Found.{Found}
use Rattle.std.specs.declared.ops.ControlFlow.{ControlFlow}
use Rattle.std.specs.declared.ops.ControlFlow.TheVariants.{Continue, Break}

-- From w to w' the queries of depth d were asked, and what is decided is the model's, whatever was asked before, of which m learned most.
pub record Passes (x : Problem) (limit d : ℕ) (w t : List ℕ) (m : Asked) (r : ControlFlow Outcome Asked) (w' t' : List ℕ) : Type 0 where
  pub is : (p : Model.Problem) → StandsFor x w p → (first : Numbers.Asked) (earlier : List Numbers.Asked) → MostOf first earlier m → Agrees first r t t' (at_depth limit p d earlier)
  pub kept : Untouched w w'

module _ (x : Problem) (limit d : ℕ) (w : List ℕ) (s : List Float) (a : Queryable x limit d w s) (t : List ℕ) (r : Found) (w₁ : List ℕ) (s₁ : List Float) (t₁ : List ℕ)
    (f : Finds x limit d w t r w₁ s₁ t₁) (m now : Asked) (c : Counted d 1 r.answer m now) (k : ℕ) where
  -- query 1 found a counterexample
  pub differs_1 : r.answer ≡ Answers.Model k → Passes x limit d w t m (Break (record { verdict = Verdicts.NotEquivalent d r.mismatch; most = now })) w₁ t₁
  unfolding at_depth query1 after_query1 not_equivalent_at answer_of_verdict verdict_answer verdict_trace
  differs_1 e =
      record {
        is = λ p q first earlier o.
            let cs = (base_counterexample p d).comparisons in
            let g : FoundBy (Answers.Model k) r.mismatch t t₁ cs (Model.ask limit (base_counterexample p d)) = rw e at (f.is p q) in
            subst (λ (z : Sat.Answer). Agrees first (Break (record { verdict = Verdicts.NotEquivalent d r.mismatch; most = now })) t t₁ (after_query1 limit p d earlier cs z)) (sym g.1) (
              λ y. ap (λ (n : ℕ). accepted_answer (status_number Numbers.NotEquivalent) d n 0 y) g.2,
              g.3 ∙ ap (λ (n : ℕ). overwrite (trace_bytes g.0 cs n) t) g.2,
              counted-more d 1 r.answer _ m now c e first earlier o,
            );
        kept = f.kept;
      }

  -- its search gave up
  pub gave_up_1 : r.answer ≡ Answers.GaveUp k → Passes x limit d w t m (Break (record { verdict = Verdicts.GaveUp d 1; most = now })) w₁ t₁
  unfolding at_depth query1 after_query1 answer_of_verdict verdict_answer verdict_trace
  gave_up_1 e =
      record {
        is = λ p q first earlier o.
            let cs = (base_counterexample p d).comparisons in
            let g : FoundBy (Answers.GaveUp k) r.mismatch t t₁ cs (Model.ask limit (base_counterexample p d)) = rw e at (f.is p q) in
            subst (λ (z : Sat.Answer). Agrees first (Break (record { verdict = Verdicts.GaveUp d 1; most = now })) t t₁ (after_query1 limit p d earlier cs z)) (sym g.0)
            (λ y. refl, g.1, counted-more d 1 r.answer _ m now c e first earlier o);
        kept = f.kept;
      }

  -- there is none: query 2 follows
  pub alike_1 : r.answer ≡ Answers.NoModel k → (z : ControlFlow Outcome Asked) (w₂ : List ℕ) → Decides x (goal2 limit d) w₁ now z w₂ → Passes x limit d w t m z w₂ t₁
  unfolding at_depth query1 after_query1
  alike_1 e z w₂ b =
      record {
        is = λ p q first earlier o.
            let cs = (base_counterexample p d).comparisons in
            let g : FoundBy (Answers.NoModel k) r.mismatch t t₁ cs (Model.ask limit (base_counterexample p d)) = rw e at (f.is p q) in
            subst (λ (y : Sat.Answer). Agrees first z t t₁ (after_query1 limit p d earlier cs y)) (sym g.0)
            (subst (λ (u : List ℕ). Agrees first z t u (goal2 limit d p (asked_too earlier d 1 k))) (sym g.1)
            (b.is p (stands_for_kept x w w₁ a.paired f.kept p q) first (asked_too earlier d 1 k) t (counted-more d 1 r.answer _ m now c e first earlier o)));
        kept = untouched_both f.kept b.kept;
      }

-- ---- query 0

-- From w to w' query 0 was asked, and what is decided is the model's; m learned most before it.
pub record Asks0 (x : Problem) (limit : ℕ) (w t : List ℕ) (m : Asked) (r : ControlFlow Outcome Asked) (w' t' : List ℕ) : Type 0 where
  pub is : (p : Model.Problem) → StandsFor x w p → (first : Numbers.Asked) → asked_of m ≡ first → Agrees first r t t' (query0 limit (base_counterexample p 0))
  pub kept : Untouched w w'

module _ (x : Problem) (limit : ℕ) (w t : List ℕ) (r : Found) (w₁ : List ℕ) (s₁ : List Float) (t₁ : List ℕ)
    (f : Finds x limit 0 w t r w₁ s₁ t₁) (m now : Asked) (c : Counted 1 0 r.answer m now) (k : ℕ) where
  -- the most learned with query 0
  counted_0 : (u : Answer) → r.answer ≡ u → (first : Numbers.Asked) → asked_of m ≡ first → MostOf first (asked_too [] 1 0 (total_of u)) now
  unfolding largest_from
  counted_0 u e first h = counted-more 1 0 r.answer u m now c e first [] h

  -- it found a counterexample
  pub differs_0 : r.answer ≡ Answers.Model k → Asks0 x limit w t m (Break (record { verdict = Verdicts.NotEquivalent 1 r.mismatch; most = now })) w₁ t₁
  unfolding query0 after_query0 not_equivalent_at answer_of_verdict verdict_answer verdict_trace
  differs_0 e =
      record {
        is = λ p q first o.
            let cs = (base_counterexample p 0).comparisons in
            let g : FoundBy (Answers.Model k) r.mismatch t t₁ cs (Model.ask limit (base_counterexample p 0)) = rw e at (f.is p q) in
            subst (λ (z : Sat.Answer). Agrees first (Break (record { verdict = Verdicts.NotEquivalent 1 r.mismatch; most = now })) t t₁ (after_query0 cs z)) (sym g.1) (
              λ y. ap (λ (n : ℕ). accepted_answer (status_number Numbers.NotEquivalent) 1 n 0 y) g.2,
              g.3 ∙ ap (λ (n : ℕ). overwrite (trace_bytes g.0 cs n) t) g.2,
              counted_0 _ e first o,
            );
        kept = f.kept;
      }

  -- there is none: all is left to the depths
  pub alike_0 : r.answer ≡ Answers.NoModel k → Asks0 x limit w t m (Continue now) w₁ t₁
  unfolding query0 after_query0
  alike_0 e =
      record {
        is = λ p q first o.
            let cs = (base_counterexample p 0).comparisons in
            let g : FoundBy (Answers.NoModel k) r.mismatch t t₁ cs (Model.ask limit (base_counterexample p 0)) = rw e at (f.is p q) in
            subst (λ (z : Sat.Answer). Agrees first (Continue now) t t₁ (after_query0 cs z)) (sym g.0) (g.1, counted_0 _ e first o);
        kept = f.kept;
      }

  -- its search gave up
  pub gave_up_0 : r.answer ≡ Answers.GaveUp k → Asks0 x limit w t m (Break (record { verdict = Verdicts.GaveUp 1 0; most = now })) w₁ t₁
  unfolding query0 after_query0 answer_of_verdict verdict_answer verdict_trace
  gave_up_0 e =
      record {
        is = λ p q first o.
            let cs = (base_counterexample p 0).comparisons in
            let g : FoundBy (Answers.GaveUp k) r.mismatch t t₁ cs (Model.ask limit (base_counterexample p 0)) = rw e at (f.is p q) in
            subst (λ (z : Sat.Answer). Agrees first (Break (record { verdict = Verdicts.GaveUp 1 0; most = now })) t t₁ (after_query0 cs z)) (sym g.0) (λ y. refl, g.1, counted_0 _ e first o);
        kept = f.kept;
      }

-- ---- depth after depth

-- The outcome, the trace after it and the query that learned most are those of depths 1 to D, whatever was asked before, of which m learned most.
pub record Deepens (x : Problem) (limit D : ℕ) (w t : List ℕ) (m : Asked) (r : Outcome) (t' : List ℕ) : Type 0 where
  pub is : (p : Model.Problem) → StandsFor x w p → (first : Numbers.Asked) (before : List Numbers.Asked) → MostOf first before m
      → Agrees first (Break r) t t' (decided (depths limit p D 0 (undecided before)).verdict (depths limit p D 0 (undecided before)).asked)

-- After depth d of D without a verdict: both sides are kept, the trace is as it was, m learned most of the queries asked, and the depths that are left give what all give.
pub record Left (x : Problem) (limit D : ℕ) (w₀ t₀ : List ℕ) (m₀ : Asked) (d : ℕ) (w t : List ℕ) (m : Asked) : Type 0 where
  pub kept : Untouched w₀ w
  pub trace : t ≡ t₀
  pub is : (p : Model.Problem) → StandsFor x w₀ p → (first : Numbers.Asked) (before : List Numbers.Asked) → MostOf first before m₀
      → (asked : List Numbers.Asked) × (depths limit p (D - d) d (undecided asked) ≡ depths limit p D 0 (undecided before)) × MostOf first asked m

-- before the first depth
pub left-none : (x : Problem) (limit D : ℕ) (w t : List ℕ) (m : Asked) → Left x limit D w t m 0 w t m
left-none x limit D w t m =
    let e : D - 0 ≡ D = omega arith in
    record { kept = untouched_none w; trace = refl; is = λ p q first before h. (before, rw e, h) }

-- a verdict stays, and the queries asked
pub decided_stays : (limit : ℕ) (p : Model.Problem) (n d : ℕ) (v : Model.Verdict) (asked : List Numbers.Asked) → depths limit p n d (decided v asked) ≡ record { verdict = v; asked = asked }
unfolding depths
decided_stays limit p zero d v asked = refl
decided_stays limit p (suc n) d v asked = refl

module _ (x : Problem) (limit D : ℕ) (w₀ : List ℕ) (s₀ : List Float) (t₀ : List ℕ) (m₀ : Asked) (a : Provable x limit D w₀ s₀ t₀) (d : ℕ) (w t : List ℕ) (m : Asked) (l : Left x limit D w₀ t₀ m₀ d w t m) where
  -- the next depth may be asked
  pub depth-asked : (s : List Float) → d < D → length w ≡ length w₀ → length s ≡ length s₀
      → Queryable x limit (d + 1) w s × (suc (d + 1) * x.gold.input_count + x.gold.output_count ≤ length t)
  depth-asked s h e f =
      let i = x.gold.input_count in
      let less : suc (d + 1) * i ≤ suc D * i = mul-le-mul {n₁ = suc (d + 1)} {m₁ = i} {n₂ = suc D} {m₂ = i} (omega arith) (omega arith) in
      (queryable_kept x limit (d + 1) w₀ s₀ w s (queryable_at x limit D (d + 1) w₀ s₀ t₀ a (omega arith)) l.kept (omega (arith, a.long)) (omega (arith, a.scores_long)), rw l.trace (omega (arith, a.trace_long)))

  -- no depth is left
  pub ended : D ≤ d → d ≤ D → Deepens x limit D w₀ t₀ m₀ (record { verdict = Verdicts.Inconclusive D; most = m }) t
  unfolding depths answer_of_verdict verdict_answer verdict_trace
  ended h k =
      let e : d ≡ D = omega arith in
      let z : D - d ≡ 0 = omega arith in
      record {
        is = λ p q first before o.
            let y = l.is p q first before o in
            let outcome : record { verdict = Model.Inconclusive D; asked = y.0 } ≡ depths limit p D 0 (undecided before) =
            ap (λ (n : ℕ). record { verdict = Model.Inconclusive n; asked = y.0 }) (sym e) ∙ rw z at y.1 in
            unfold depths in
            subst (λ (u : Model.Outcome). Agrees first (Break (record { verdict = Verdicts.Inconclusive D; most = m })) t₀ t (decided u.verdict u.asked)) outcome (λ i. refl, l.trace, y.2);
      }

  module _ (h : d < D) (r : ControlFlow Outcome Asked) (w' t' : List ℕ) (b : Passes x limit (d + 1) w t m r w' t') where
    module _ (p : Model.Problem) (q : StandsFor x w₀ p) (first : Numbers.Asked) (before : List Numbers.Asked) (o : MostOf first before m₀) where
      -- the queries asked so far
      abbrev so_far : List Numbers.Asked
      so_far = (l.is p q first before o).0

      -- what the depth decides
      agrees : Agrees first r t t' (at_depth limit p (d + 1) so_far)
      agrees = b.is p (stands_for_kept x w₀ w a.paired l.kept p q) first so_far (l.is p q first before o).2

      -- one depth more
      one_more : depths limit p (D - (d + 1)) (d + 1) (at_depth limit p (d + 1) so_far) ≡ depths limit p D 0 (undecided before)
      unfolding depths
      one_more =
          let e : D - d ≡ suc (D - (d + 1)) = omega arith in
          let z : depths limit p (suc (D - (d + 1))) d (undecided so_far) ≡ depths limit p D 0 (undecided before) = unfold depths in rw e at (l.is p q first before o).1 in
          rw add-one (rw add-one at z)

      left_by : (now : Asked) (z : Proving) → at_depth limit p (d + 1) so_far ≡ z → Agrees first (Continue now) t t' z
          → (t' ≡ t) × (asked : List Numbers.Asked) × (depths limit p (D - (d + 1)) (d + 1) (undecided asked) ≡ depths limit p D 0 (undecided before)) × MostOf first asked now
      left_by now (undecided asked) e g = (g.0, asked, ap (λ (y : Proving). depths limit p (D - (d + 1)) (d + 1) y) (sym e) ∙ one_more, g.1)
      left_by now (decided v asked) e g = absurd g

      stopped_by : (u : Outcome) (z : Proving) → at_depth limit p (d + 1) so_far ≡ z → Agrees first (Break u) t t' z
          → Agrees first (Break u) t₀ t' (decided (depths limit p D 0 (undecided before)).verdict (depths limit p D 0 (undecided before)).asked)
      stopped_by u (undecided asked) e g = absurd g
      stopped_by u (decided v asked) e g =
          let same : record { verdict = v; asked = asked } ≡ depths limit p D 0 (undecided before) =
          sym (decided_stays limit p (D - (d + 1)) (d + 1) v asked) ∙ ap (λ (y : Proving). depths limit p (D - (d + 1)) (d + 1) y) (sym e) ∙ one_more in
          subst (λ (y : Model.Outcome). Agrees first (Break u) t₀ t' (decided y.verdict y.asked)) same (g.0, g.1 ∙ ap (verdict_trace v) l.trace, g.2)

    -- the depth decided nothing
    pub left-more : (now : Asked) → r ≡ Continue now → Left x limit D w₀ t₀ m₀ (d + 1) w' t' now
    unfolding largest_from
    left-more now e =
        let next : (p : Model.Problem) (q : StandsFor x w₀ p) (first : Numbers.Asked) (before : List Numbers.Asked) → MostOf first before m₀
        → (t' ≡ t) × (asked : List Numbers.Asked) × (depths limit p (D - (d + 1)) (d + 1) (undecided asked) ≡ depths limit p D 0 (undecided before)) × MostOf first asked now =
        λ p q first before o. left_by p q first before o now (at_depth limit p (d + 1) (so_far p q first before o)) refl (rw e at (agrees p q first before o)) in
        record {
          kept = untouched_both l.kept b.kept;
          trace = (next a.problem a.stands (asked_of m₀) [] refl).0 ∙ l.trace;
          is = λ p q first before o. let y = next p q first before o in (y.1, y.2, y.3);
        }

    -- it decided
    pub stopped : (u : Outcome) → r ≡ Break u → Deepens x limit D w₀ t₀ m₀ u t'
    stopped u e = record { is = λ p q first before o. stopped_by p q first before o u (at_depth limit p (d + 1) (so_far p q first before o)) refl (rw e at (agrees p q first before o)) }
