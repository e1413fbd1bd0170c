-- Where a check gives up, a larger limit of learned literals goes on from there: it asks the same queries up to the one that gave up, and gets as far. Assumes nothing.
use Prim.Native.Nat.{ℕ, zero, suc, ◌-◌, ◌≤◌, ◌<◌}
use Rattle.std.proofs.Common.{arith, ◌∙◌, subst, inl, inr, ltb-true, ltb-false}
use Rattle.std.proofs.Math.Path.{◌≡◌, refl, sym, ap}
use Rattle.std.specs.Prelude.{◌⊎◌, Bool, cond, ltb, Float}
use Rattle.std.proofs.Math.Bool.{true, false}
use mathlib.Core.List.Memᴰ
use mathlib.Core.List.{List, [], ◌∷◌, ◌++◌, append-nil, append_assoc, Memᴰ}
use Rattle.std.proofs.Math.Option.{none, some}
use Rattle.model.specs.Answers.{Asked, CheckAnswer}
use Rattle.model.specs.Lists.{snoc}
use Rattle.model.specs.Options.{Options, first_query}
use Rattle.model.specs.Netlist.{Design}
use Rattle.model.specs.Run.{StoredBits, initial_bits}
use Rattle.model.specs.Pair.{check_refusal}
use Rattle.model.specs.Sat.{Answer, model, no_model, gave_up, out_of_fuel}
use Rattle.model.specs.Equivalence.{Problem, Query, base_counterexample, base_preserves_named_state, induction_closes, ask, Verdict, Equivalent, NotEquivalent, Inconclusive, GaveUp, OutOfFuel, Outcome, Proving, undecided, decided, asked_too, not_equivalent_at, after_query4, query4, after_query3, after_query2, after_query1, query1, at_depth, depths, after_query0, query0, before_query1, prove_sequential_equivalence}
use Rattle.model.specs.Check.{problem_of, check_designs, lent_of, check}
use Rattle.laws.specs.Terms.{learned_of, LargerLimit, answer_total, StopsAt, at_query_0, at_depth_lem, Sooner, FirstLargest, proved_by_place, NotBelow, GoesOn, AsFar}
use Rattle.laws.specs.Lists.{last-or-later}
use Rattle.laws.specs.Search.Limits.{give_up-no-less}
use Rattle.laws.specs.Induction.Pairs.{Accepted, accepted-pair}
use Rattle.laws.proofs.Check.Asked.{designs_later}
use Rattle.laws.proofs.Check.LargerLimit.{asked-same}
use Rattle.laws.proofs.Check.GiveUp.{designs_give_up, designs_last}
use Rattle.laws.proofs.Check.Learned.{call_largest}
use Rattle.laws.proofs.Check.Proved.{gave_free, answer_gave, call-place}

-- ---- the queries asked only grow

-- the outcome of a loop that ends here
abbrev ended : Proving → Outcome
ended (undecided earlier) = record { verdict = Inconclusive 0; asked = earlier }
ended (decided v earlier) = record { verdict = v; asked = earlier }

-- the queries asked go on from earlier ones with this one
abbrev Next : List Asked → Asked → List Asked → Type 0
Next earlier a asked = (after : List Asked) × (asked ≡ earlier ++ (a ∷ after))

-- with another one before it
next-before : (earlier : List Asked) (a b : Asked) (asked : List Asked) → Next (snoc earlier a) b asked → Next earlier a asked
unfolding snoc
next-before earlier a b asked x = (b ∷ x.0, x.1 ∙ append_assoc earlier (a ∷ []) (b ∷ x.0))

module _ (limit : ℕ) (p : Problem) where
  module _ (d : ℕ) where
    next_4 : (earlier : List Asked) (a : Answer) → Next earlier (record { depth = d; query = 4; learned = answer_total a }) (ended (after_query4 d earlier a)).asked
    unfolding after_query4 asked_too snoc answer_total
    next_4 earlier (model values n) = ([], refl)
    next_4 earlier (no_model n) = ([], refl)
    next_4 earlier (gave_up n) = ([], refl)
    next_4 earlier (out_of_fuel n) = ([], refl)

    next_3 : (earlier : List Asked) (a : Answer) → Next earlier (record { depth = d; query = 3; learned = answer_total a }) (ended (after_query3 limit p d earlier a)).asked
    unfolding after_query3 query4 asked_too snoc answer_total
    next_3 earlier (model values n) = next-before earlier _ _ _ (next_4 (asked_too earlier d 3 n) (ask limit (induction_closes p false d)))
    next_3 earlier (no_model n) = ([], refl)
    next_3 earlier (gave_up n) = ([], refl)
    next_3 earlier (out_of_fuel n) = ([], refl)

    next_2 : (earlier : List Asked) (a : Answer) → Next earlier (record { depth = d; query = 2; learned = answer_total a }) (ended (after_query2 limit p d earlier a)).asked
    unfolding after_query2 query4 asked_too snoc answer_total
    next_2 earlier (model values n) = next-before earlier _ _ _ (next_4 (asked_too earlier d 2 n) (ask limit (induction_closes p false d)))
    next_2 earlier (no_model n) = next-before earlier _ _ _ (next_3 (asked_too earlier d 2 n) (ask limit (induction_closes p true d)))
    next_2 earlier (gave_up n) = ([], refl)
    next_2 earlier (out_of_fuel n) = ([], refl)

    next_1 : (earlier : List Asked) (a : Answer) → Next earlier (record { depth = d; query = 1; learned = answer_total a }) (ended (after_query1 limit p d earlier (base_counterexample p d).comparisons a)).asked
    unfolding after_query1 asked_too snoc answer_total
    next_1 earlier (model values n) = ([], refl)
    next_1 earlier (no_model n) = next-before earlier _ _ _ (next_2 (asked_too earlier d 1 n) (ask limit (base_preserves_named_state p d)))
    next_1 earlier (gave_up n) = ([], refl)
    next_1 earlier (out_of_fuel n) = ([], refl)

  next_0 : (a : Answer) → Next [] (record { depth = 1; query = 0; learned = answer_total a }) (ended (after_query0 (base_counterexample p 0).comparisons a)).asked
  unfolding after_query0 asked_too snoc answer_total
  next_0 (model values n) = ([], refl)
  next_0 (no_model n) = ([], refl)
  next_0 (gave_up n) = ([], refl)
  next_0 (out_of_fuel n) = ([], refl)

  -- the loop adds to those asked so far
  depths-add : (n d : ℕ) (r : Proving) → (more : List Asked) × ((depths limit p n d r).asked ≡ (ended r).asked ++ more)
  unfolding depths at_depth query1
  depths-add zero d (undecided earlier) = ([], sym (append-nil earlier))
  depths-add zero d (decided v earlier) = ([], sym (append-nil earlier))
  depths-add (suc n) d (undecided earlier) =
      let x = depths-add n (suc d) (at_depth limit p (suc d) earlier) in
      let a = ask limit (base_counterexample p (suc d)) in
      let first : Asked = record { depth = suc d; query = 1; learned = answer_total a } in
      let y = next_1 (suc d) earlier a in
      ((first ∷ y.0) ++ x.0, x.1 ∙ ap (λ (l : List Asked). l ++ x.0) y.1 ∙ append_assoc earlier (first ∷ y.0) x.0)
  depths-add (suc n) d (decided v earlier) = ([], sym (append-nil earlier))

-- ---- where the smaller limit gives up

-- with more queries asked after them
goes_further : (gave larger further : Outcome) (d q : ℕ) (more : List Asked) → further.asked ≡ larger.asked ++ more → GoesOn gave larger d q → GoesOn gave further d q
goes_further gave larger further d q more e g =
    let a : Asked = record { depth = d; query = q; learned = g.larger_total } in
    record {
      before = g.before;
      after = g.after ++ more;
      total = g.total;
      larger_total = g.larger_total;
      stopped = g.stopped;
      went_on = e ∙ ap (λ (l : List Asked). l ++ more) g.went_on ∙ append_assoc g.before (a ∷ g.after) more;
      no_less = g.no_less;
    }

-- without a verdict they are the same, and where the smaller limit gave up the larger one goes on from there
abbrev Onward : Proving → Proving → Type 0
Onward (undecided earlier) r = r ≡ undecided earlier
Onward (decided (Equivalent d) earlier) r = Unit {0}
Onward (decided (NotEquivalent d m bytes) earlier) r = Unit {0}
Onward (decided (Inconclusive d) earlier) r = Unit {0}
Onward (decided (GaveUp d q) earlier) r = GoesOn (ended (decided (GaveUp d q) earlier)) (ended r) d q
Onward (decided OutOfFuel earlier) r = Unit {0}

module _ (limit larger : ℕ) (le : limit ≤ larger) (p : Problem) where
  -- a query that gives up under the smaller limit
  gave_up_onward : (d k n : ℕ) (q : Query) (earlier : List Asked) (u : Outcome) → ask limit q ≡ gave_up n
      → Next earlier (record { depth = d; query = k; learned = answer_total (ask larger q) }) u.asked → GoesOn (ended (decided (GaveUp d k) (asked_too earlier d k n))) u d k
  unfolding asked_too ask
  gave_up_onward d k n q earlier u e x =
      record {
        before = earlier;
        after = x.0;
        total = n;
        larger_total = answer_total (ask larger q);
        stopped = refl;
        went_on = x.1;
        no_less = give_up-no-less limit larger le q.aig q.assumptions n e;
      }

  module _ (d : ℕ) where
    onward_4 : (earlier : List Asked) (a : Answer) → ask limit (induction_closes p false d) ≡ a → Onward (after_query4 d earlier a) (after_query4 d earlier (ask larger (induction_closes p false d)))
    unfolding after_query4
    onward_4 earlier (model values n) e = ap (after_query4 d earlier) (asked-same limit larger le p _ _ e tt)
    onward_4 earlier (no_model n) e = tt
    onward_4 earlier (gave_up n) e = gave_up_onward d 4 n _ earlier _ e (next_4 larger p d earlier _)
    onward_4 earlier (out_of_fuel n) e = tt

    ask_4_onward : (earlier : List Asked) → Onward (query4 limit p d earlier) (query4 larger p d earlier)
    unfolding query4
    ask_4_onward earlier = onward_4 earlier (ask limit (induction_closes p false d)) refl

    onward_3 : (earlier : List Asked) (a : Answer) → ask limit (induction_closes p true d) ≡ a
        → Onward (after_query3 limit p d earlier a) (after_query3 larger p d earlier (ask larger (induction_closes p true d)))
    unfolding after_query3
    onward_3 earlier (model values n) e = rw (asked-same limit larger le p _ _ e tt) (ask_4_onward (asked_too earlier d 3 n))
    onward_3 earlier (no_model n) e = tt
    onward_3 earlier (gave_up n) e = gave_up_onward d 3 n _ earlier _ e (next_3 larger p d earlier _)
    onward_3 earlier (out_of_fuel n) e = tt

    onward_2 : (earlier : List Asked) (a : Answer) → ask limit (base_preserves_named_state p d) ≡ a
        → Onward (after_query2 limit p d earlier a) (after_query2 larger p d earlier (ask larger (base_preserves_named_state p d)))
    unfolding after_query2
    onward_2 earlier (model values n) e = rw (asked-same limit larger le p _ _ e tt) (ask_4_onward (asked_too earlier d 2 n))
    onward_2 earlier (no_model n) e = rw (asked-same limit larger le p _ _ e tt) (onward_3 (asked_too earlier d 2 n) (ask limit (induction_closes p true d)) refl)
    onward_2 earlier (gave_up n) e = gave_up_onward d 2 n _ earlier _ e (next_2 larger p d earlier _)
    onward_2 earlier (out_of_fuel n) e = tt

    onward_1 : (earlier : List Asked) (a : Answer) → ask limit (base_counterexample p d) ≡ a
        → Onward (after_query1 limit p d earlier (base_counterexample p d).comparisons a)
        (after_query1 larger p d earlier (base_counterexample p d).comparisons (ask larger (base_counterexample p d)))
    unfolding after_query1 not_equivalent_at
    onward_1 earlier (model values n) e = tt
    onward_1 earlier (no_model n) e = rw (asked-same limit larger le p _ _ e tt) (onward_2 (asked_too earlier d 1 n) (ask limit (base_preserves_named_state p d)) refl)
    onward_1 earlier (gave_up n) e = gave_up_onward d 1 n _ earlier _ e (next_1 larger p d earlier _)
    onward_1 earlier (out_of_fuel n) e = tt

    depth_onward : (earlier : List Asked) → Onward (at_depth limit p d earlier) (at_depth larger p d earlier)
    unfolding at_depth query1
    depth_onward earlier = onward_1 earlier (ask limit (base_counterexample p d)) refl

  onward_0 : (a : Answer) → ask limit (base_counterexample p 0) ≡ a
      → Onward (after_query0 (base_counterexample p 0).comparisons a) (after_query0 (base_counterexample p 0).comparisons (ask larger (base_counterexample p 0)))
  unfolding after_query0 not_equivalent_at
  onward_0 (model values n) e = tt
  onward_0 (no_model n) e = ap (after_query0 (base_counterexample p 0).comparisons) (asked-same limit larger le p _ _ e tt)
  onward_0 (gave_up n) e = gave_up_onward 1 0 n _ [] _ e (next_0 larger p _)
  onward_0 (out_of_fuel n) e = tt

  before_onward : (earliest : Bool) (D : ℕ) → Onward (before_query1 earliest limit p D) (before_query1 earliest larger p D)
  unfolding before_query1 query0
  before_onward false D = refl
  before_onward true zero = refl
  before_onward true (suc n) = onward_0 (ask limit (base_counterexample p 0)) refl

  -- a loop that has given up, and one that goes on from there
  decided_goes_on : (n d : ℕ) (v : Verdict) (earlier : List Asked) (r : Proving) → Onward (decided v earlier) r → (e q : ℕ) → v ≡ GaveUp e q
      → GoesOn (ended (decided v earlier)) (depths larger p n d r) e q
  decided_goes_on n d (Equivalent c) earlier r w e q z = absurd (let y : ◌≡◌ {A = ℕ} 0 1 = cc in omega arith)
  decided_goes_on n d (NotEquivalent c m bytes) earlier r w e q z = absurd (let y : ◌≡◌ {A = ℕ} 0 1 = cc in omega arith)
  decided_goes_on n d (Inconclusive c) earlier r w e q z = absurd (let y : ◌≡◌ {A = ℕ} 0 1 = cc in omega arith)
  decided_goes_on n d (GaveUp c j) earlier r w e q z =
      let x : c ≡ e = cc in
      let y : j ≡ q = cc in
      let m = depths-add larger p n d r in
      rw (← x, ← y) (goes_further (ended (decided (GaveUp c j) earlier)) (ended r) (depths larger p n d r) c j m.0 m.1 w)
  decided_goes_on n d OutOfFuel earlier r w e q z = absurd (let y : ◌≡◌ {A = ℕ} 0 1 = cc in omega arith)

  depths_go_on : (n d : ℕ) (r u : Proving) → Onward r u → (e q : ℕ) → (depths limit p n d r).verdict ≡ GaveUp e q → GoesOn (depths limit p n d r) (depths larger p n d u) e q
  unfolding depths
  depths_go_on zero d (undecided earlier) u w e q z = absurd (let y : ◌≡◌ {A = ℕ} 0 1 = cc in omega arith)
  depths_go_on zero d (decided v earlier) u w e q z = decided_goes_on zero d v earlier u w e q z
  depths_go_on (suc n) d (undecided earlier) u w e q z =
      rw w (depths_go_on n (suc d) (at_depth limit p (suc d) earlier) (at_depth larger p (suc d) earlier) (depth_onward (suc d) earlier) e q z)
  depths_go_on (suc n) d (decided v earlier) u w e q z = decided_goes_on (suc n) d v earlier u w e q z

-- where the check of two designs gives up, a larger limit asks the same queries up to the one that gave up, and that one too, which learns no less
pub designs_go_on : (o larger : Options) → LargerLimit o larger → (gold gate : Design) (s t : StoredBits) (d q : ℕ) → (check_designs o gold gate s t).verdict ≡ GaveUp d q
    → GoesOn (check_designs o gold gate s t) (check_designs larger gold gate s t) d q
unfolding check_designs prove_sequential_equivalence
designs_go_on o larger le gold gate s t d q z =
    let p = problem_of gold gate s t in
    rw (← le.depth, ← le.earliest) (depths_go_on o.limit larger.limit le.limit p o.depth 0 _ _ (before_onward o.limit larger.limit le.limit p o.earliest o.depth) d q z)

-- ---- as far

-- a check stops at depth 1 or deeper
stops-low : (o : Options) (p : Problem) (d q : ℕ) → StopsAt o p d q → 1 ≤ d
stops-low o p d q (at_query_0 mode low x) = omega arith
stops-low o p d q (at_depth_lem low high zeroth passed w) = low

-- the place of a give-up is not before another
abbrev NotBefore : ℕ → ℕ → ℕ → ℕ → Type 0
NotBefore d q e k = (d < e) ⊎ ((d ≡ e) × (q ≤ k))

-- a query asked stands at the place of the last, or before it
not-before : (o : Options) (gold gate : Design) (s t : StoredBits) (before after others : List Asked) (d q m e k n : ℕ)
    → (check_designs o gold gate s t).asked ≡ before ++ (record { depth = d; query = q; learned = m } ∷ after)
    → (check_designs o gold gate s t).asked ≡ snoc others (record { depth = e; query = k; learned = n }) → NotBefore d q e k
unfolding Sooner
not-before o gold gate s t before after others d q m e k n x y = go (last-or-later before after others a z (sym x ∙ y))
  where
    a : Asked
    a = record { depth = d; query = q; learned = m }

    z : Asked
    z = record { depth = e; query = k; learned = n }

    sooner : Sooner a z → NotBefore d q e k
    sooner (inl h) = inl h
    sooner (inr h) = inr (h.0, omega (arith, h.1))

    go : (a ≡ z) ⊎ Memᴰ z after → NotBefore d q e k
    go (inl w) = inr (ap (λ (b : Asked). b.depth) w, omega (arith, ap (λ (b : Asked). b.query) w))
    go (inr w) = sooner (designs_later o gold gate s t before after a x z w)

not-above : (d q e k : ℕ) → NotBefore d q e k → d ≤ e
not-above d q e k (inl h) = omega (arith, h)
not-above d q e k (inr h) = omega (arith, h.0)

beyond : (d q e k : ℕ) → NotBefore d q e k → k < q → d < e
beyond d q e k (inl h) l = h
beyond d q e k (inr h) l = absurd (omega (arith, h.1, l))

-- it proves no lower cycle
place-not-below : (earliest : Bool) (d q e k : ℕ) → 1 ≤ d → NotBefore d q e k → NotBelow (proved_by_place earliest d q) (proved_by_place earliest e k)
unfolding proved_by_place
place-not-below earliest d q e k low h = go (ltb 1 q) (ltb 1 d) (ltb first q) (ltb 1 k) (ltb 1 e) (ltb first k) refl refl refl refl refl refl
  where
    first : ℕ
    first = first_query earliest

    go : (q' d' f' k' e' g' : Bool) → ltb 1 q ≡ q' → ltb 1 d ≡ d' → ltb first q ≡ f' → ltb 1 k ≡ k' → ltb 1 e ≡ e' → ltb first k ≡ g'
        → NotBelow (cond q' (some d) (cond d' (some (d - 1)) (cond f' (some 0) none))) (cond k' (some e) (cond e' (some (e - 1)) (cond g' (some 0) none)))
    go true d' f' true e' g' x y u z w v = not-above d q e k h
    go true d' f' false true g' x y u z w v = let l = beyond d q e k h (omega (arith, ltb-true 1 q x, ltb-false 1 k z)) in omega (arith, l)
    go true d' f' false false g' x y u z w v = let l = beyond d q e k h (omega (arith, ltb-true 1 q x, ltb-false 1 k z)) in absurd (omega (arith, l, low, ltb-false 1 e w))
    go false true f' true e' g' x y u z w v = omega (arith, not-above d q e k h)
    go false true f' false true g' x y u z w v = omega (arith, not-above d q e k h)
    go false true f' false false g' x y u z w v = absurd (omega (arith, not-above d q e k h, ltb-true 1 d y, ltb-false 1 e w))
    go false false true true e' g' x y u z w v = omega arith
    go false false true false true g' x y u z w v = omega arith
    go false false true false false true x y u z w v = omega arith
    go false false true false false false x y u z w v =
        let l = beyond d q e k h (omega (arith, ltb-true first q u, ltb-false first k v)) in absurd (omega (arith, l, low, ltb-false 1 e w))
    go false false false k' e' g' x y u z w v = tt

-- none of the queries learned more than the one that learned most
most_of : (asked : List Asked) (most : Asked) → FirstLargest asked most → (a : Asked) → Memᴰ a asked → a.learned ≤ most.learned
most_of asked most f a m = go (Memᴰ.append_cases f.before (subst (Memᴰ a) f.stands m))
  where
    later : (a ≡ most) ⊎ Memᴰ a f.after → a.learned ≤ most.learned
    later (inl e) = omega (arith, ap (λ (b : Asked). b.learned) e)
    later (inr k) = f.no_more a k

    go : Memᴰ a f.before ⊎ Memᴰ a (most ∷ f.after) → a.learned ≤ most.learned
    go (inl k) = omega (arith, f.less a k)
    go (inr k) = later (Memᴰ.cases_cons k)

-- what goes on from a give-up learned no less
learned-no-less : (gave larger : Outcome) (d q : ℕ) → GoesOn gave larger d q → (m n : Asked) → FirstLargest gave.asked m → FirstLargest larger.asked n → m.learned ≤ n.learned
unfolding snoc
learned-no-less gave larger d q g m n f h = go (Memᴰ.append_cases g.before (subst (Memᴰ m) (sym f.stands ∙ g.stopped) (Memᴰ.append_right f.before (Memᴰ.head refl))))
  where
    last : Asked
    last = record { depth = d; query = q; learned = g.larger_total }

    within : (a : Asked) → Memᴰ a (g.before ++ (last ∷ g.after)) → a.learned ≤ n.learned
    within a k = most_of larger.asked n h a (subst (Memᴰ a) (sym g.went_on) k)

    go : Memᴰ m g.before ⊎ Memᴰ m (record { depth = d; query = q; learned = g.total } ∷ []) → m.learned ≤ n.learned
    go (inl k) = within m (Memᴰ.append_left (last ∷ g.after) k)
    go (inr k) =
        omega (arith, ap (λ (b : Asked). b.learned) (Memᴰ.eq_of_singleton k), g.no_less, within last (Memᴰ.append_right g.before (Memᴰ.head refl)))

-- of two calls that gave up the one under the larger limit got as far as the other: not in an earlier query, with no lower cycle proved, and having learned no less
pub call_as_far : (a b : List ℕ) (o larger : Options) → LargerLimit o larger → (trace words : List ℕ) (scores : List Float) (t w : List ℕ) (s : List Float)
    → (check a b o trace words scores).answer.status ≡ 3 → (check a b larger t w s).answer.status ≡ 3 → AsFar (check a b o trace words scores).answer (check a b larger t w s).answer
call_as_far a b o larger le trace words scores t w s h i = go (accepted-pair a b o (lent_of trace words scores) free)
  where
    first : CheckAnswer
    first = (check a b o trace words scores).answer

    second : CheckAnswer
    second = (check a b larger t w s).answer

    free : check_refusal a b o (lent_of trace words scores) ≡ none
    free = gave_free a b o trace words scores h

    larger_free : check_refusal a b larger (lent_of t w s) ≡ none
    larger_free = gave_free a b larger t w s i

    go : Accepted a b o (lent_of trace words scores) → AsFar first second
    go k =
        let x = initial_bits k.gold in
        let y = initial_bits k.gate in
        let v = answer_gave a b o trace words scores k.gold k.gate free k.pair h in
        let u = answer_gave a b larger t w s k.gold k.gate larger_free k.pair i in
        let g = designs_go_on o larger le k.gold k.gate x y first.depth first.query v in
        let l = (designs_last larger k.gold k.gate x y second.depth second.query).0 u in
        let place = not-before larger k.gold k.gate x y g.before g.after l.before first.depth first.query g.larger_total second.depth second.query l.total g.went_on l.last in
        let low = stops-low o _ first.depth first.query ((designs_give_up o k.gold k.gate x y first.depth first.query).0 v) in
        let m = ap (λ (earliest : Bool). proved_by_place earliest second.depth second.query) (sym le.earliest) in
        record {
          place = place;
          proved = rw (call-place a b o trace words scores h, call-place a b larger t w s i, m) (place-not-below o.earliest first.depth first.query second.depth second.query low place);
          learned = unfold learned_of in learned-no-less _ _ _ _ g (learned_of first) (learned_of second)
              (call_largest a b o trace words scores k.gold k.gate free k.pair) (call_largest a b larger t w s k.gold k.gate larger_free k.pair);
        }
