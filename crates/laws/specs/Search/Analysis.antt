-- The analysis of a conflict: it ends before its rounds do, and learns distinct variables on the trail; where the clauses are true, so is the clause it learns. Assumes nothing.
use Prim.Native.Nat.{ℕ, zero, suc, ◌≤◌, ◌<◌}
use native.Mathlib.Omega.{arith}
use Rattle.std.specs.Prelude.{◌≡◌, ◌≢◌, ◌⊎◌, Bool, List, ◌∷◌, eqb}
use Rattle.std.proofs.Math.Path.{refl, sym, ap, subst}
use Rattle.std.proofs.Common.{◌∙◌, inl}
use Rattle.std.proofs.Math.Logic.{inr}
use Rattle.std.proofs.Math.Bool.{true, false, false≢true}
use Rattle.std.proofs.Math.ListN.{length, get_or, length-replicate}
use borrow.Author.Tests.{eqb-true, eqb-false}
use Rattle.model.specs.Literal.{Literal, node, negate}
use Rattle.model.specs.Sat.{Clause, Assignment, Solver, Analysis, see_literals, pivot_index, Resolution, resolving, resolved, reason_of, close_pivot, resolve_next, resolve_pivot, resolve_below, resolve_round, resolve_rounds, no_analysis, analyze}
use Rattle.laws.specs.Graph.Values.{node-negate}
use Rattle.laws.specs.Search.Resolvent.{Meaning, Pending, pending_means, close_ok, close_means, last-holds}
use Rattle.laws.specs.Search.Seeing.{current-level, Learned, AnalysisOk, PivotOrFalse, literals_ok, literals_mark, literals-new}
use Rattle.facts.specs.Lists.{get_or-replicate, All, all_from, all_map}
use Rattle.facts.specs.Numbers.{by_eq}
use Rattle.laws.specs.Search.Clauses.{lits, clause_value, Satisfied}
use Rattle.laws.specs.Search.Trail.{entry, limit_at, Range, TrailInv}
use Rattle.laws.specs.Search.Reasons.{Earlier, Before, Begins, Because, Reasoned, Ground}
use Rattle.laws.specs.Search.State.{Conflicting}
use Rattle.laws.specs.Search.Sorting.{Distinct}
use Rattle.laws.specs.Search.Marks.{count, count_le, count-some, count_low, count_none, pivot-last}

module _ (n : ℕ) (t : Assignment) (inv : TrailInv n t) (d : ℕ) (top : length t.trail_limits ≡ suc d) where
  module _ (cs : List Clause) (reasoned : Reasoned t cs) (in_range : (id i : ℕ) → i < length (lits cs id) → Range n (get_or (lits cs id) i 0)) where
    -- the clauses and the literals of level n t inv d top 0 are true
    abbrev Truth : List Bool → Type 0
    Truth vs = Satisfied vs cs × Ground vs t

    -- the rounds that are left suffice
    pub record Going (k : ℕ) (a : Analysis) (i id v : ℕ) : Type 0 where
      pub pivot : Literal
      pub same : node pivot ≡ v
      pub ok : AnalysisOk n t inv d top a i
      pub inside : i ≤ length t.trail
      pub fuel : i ≤ k
      pub known : id < length cs
      pub away : (q : ℕ) → q < i → node (entry t q) ≢ node pivot
      pub before : Before t i (lits cs id) pivot
      pub live : 1 ≤ count t (limit_at t d) (see_literals t (node pivot) a (lits cs id)).seen i
      pub pending : (vs : List Bool) → Truth vs → Pending n t inv d top vs a i pivot

    -- what the analysis found
    pub record Resolved (a : Analysis) (p : Literal) : Type 0 where
      pub size : length a.scores.activity ≡ n
      pub learned : All (Learned n t inv d top a.seen) a.learned
      pub apart : Distinct a.learned
      pub place : ℕ
      pub place_in : place < length t.trail
      pub current : limit_at t d ≤ place
      pub here : entry t place ≡ p
      pub holds : (vs : List Bool) → Truth vs → clause_value vs (negate p ∷ a.learned) ≡ true

    -- what holds before a round with k left, and at the end
    abbrev pub ResolutionOk : ℕ → Resolution → Type 0
    ResolutionOk k (resolving a i id v) = Going k a i id v
    ResolutionOk k (resolved a p) = Resolved a p

    ready-from : (j id : ℕ) (x : Literal) → Before t j (lits cs id) x → (i : ℕ) → i < length (lits cs id) → PivotOrFalse n t inv d top j x (get_or (lits cs id) i 0)
    ready-from j id x b i h = (in_range id i h, b i h)

    -- a pivot with others open is no decision
    next-clause : (k : ℕ) (a : Analysis) (j : ℕ) → AnalysisOk n t inv d top a j → j < length t.trail → limit_at t d ≤ j → j ≤ k → 1 ≤ a.open_at_level → ((vs : List Bool) → Truth vs → Pending n t inv d top vs a j (entry t j))
        → Going k a j (reason_of t (node (entry t j))) (node (entry t j))
    unfolding reason_of
    next-clause k a j w lt low hk op m = go (reasoned j lt)
      where
        go : Begins t j ⊎ Because t cs j → Going k a j (reason_of t (node (entry t j))) (node (entry t j))
        go (inl b) =
            absurd
            (let z : j ≤ limit_at t d = by_eq b.0 d (λ e. omega (arith, ap (limit_at t) e, b.2)) (λ e. omega (arith, inv.rise b.0 d (omega (arith, b.1)) (omega arith), b.2)) in
            omega (arith, count_low t (limit_at t d) a.seen j z, w.opened))
        go (inr b) =
            let e : reason_of t (node (entry t j)) ≡ b.id = rw (b.reason, reason_of) in
            subst (λ x. Going k a j x (node (entry t j))) (sym e)
            (record {
              pivot = entry t j;
              same = refl;
              ok = w;
              inside = omega arith;
              fuel = hk;
              known = b.inside;
              away = λ q h. inv.apart q j h lt;
              before = b.before;
              live =
                  omega (
                    arith,
                    w.opened,
                    count_le t (limit_at t d) a.seen (see_literals t (node (entry t j)) a (lits cs b.id)).seen j
                        (λ p hp z. (literals_mark n t inv d top (node (entry t j)) a (lits cs b.id) (node (entry t p)) z.0, z.1)),
                  );
              pending = m;
            })

    next_ok : (k : ℕ) (a : Analysis) (j : ℕ) (b : Bool) → eqb a.open_at_level 0 ≡ b → AnalysisOk n t inv d top a j → j < length t.trail → limit_at t d ≤ j → j ≤ k → ((vs : List Bool) → Truth vs → Pending n t inv d top vs a j (entry t j))
        → ResolutionOk k (resolve_next t a j (entry t j) b)
    unfolding resolve_next
    next_ok k a j true e w lt low hk m =
        record {
          size = w.size;
          learned = w.learned;
          apart = w.apart;
          place = j;
          place_in = lt;
          current = low;
          here = refl;
          holds = λ vs sat. last-holds n t inv d top vs a j w (eqb-true a.open_at_level 0 e) (inv.range j lt) (m vs sat);
        }
    next_ok k a j false e w lt low hk m = next-clause k a j w lt low hk (omega (arith, eqb-false a.open_at_level 0 e)) m

    below_ok : (k : ℕ) (a : Analysis) (i : ℕ) → AnalysisOk n t inv d top a i → i ≤ length t.trail → i ≤ suc k → 1 ≤ count t (limit_at t d) a.seen i → ((vs : List Bool) → Truth vs → Meaning n t inv d top vs a i)
        → ResolutionOk k (resolve_below t a i)
    unfolding resolve_below resolve_pivot
    below_ok k a i w hi hk live m =
        let j = pivot_index t a.seen i in
        let p = pivot-last t (limit_at t d) a.seen i live in
        next_ok k (close_pivot a (entry t j)) j (eqb (close_pivot a (entry t j)).open_at_level 0) refl (close_ok n t inv d top a i j hi w p) (omega (arith, p.below)) p.hit.1 (omega (arith, p.below))
        (λ vs sat. close_means n t inv d top a i j hi w p vs (m vs sat))

    round_ok : (k : ℕ) (a : Analysis) (i id v : ℕ) → Going (suc k) a i id v → ResolutionOk k (resolve_below t (see_literals t v a (lits cs id)) i)
    round_ok k a i id v w =
        let x = w.pivot in
        let ready = ready-from i id x w.before in
        let ok = literals_ok n t inv d top i x a (lits cs id) w.inside (all_from (PivotOrFalse n t inv d top i x) (lits cs id) ready) w.ok in
        subst (λ u. ResolutionOk k (resolve_below t (see_literals t u a (lits cs id)) i)) w.same
        (below_ok k (see_literals t (node x) a (lits cs id)) i ok w.inside w.fuel w.live
        (λ vs sat. pending_means n t inv d top vs sat.1 i x a (lits cs id) w.inside w.ok.seen_size w.away ready (sat.0 id w.known) ok (w.pending vs sat)))

-- the analysis ended, at the pivot p of the current level; what it learned is true where the clauses are
pub record Analyzed (n : ℕ) (cs : List Clause) (t : Assignment) (a : Analysis) (p : Literal) : Type 0 where
  pub size : length a.scores.activity ≡ n
  pub place : ℕ
  pub place_in : place < length t.trail
  pub here : entry t place ≡ p
  pub current : (i : ℕ) → i < length t.trail_limits → limit_at t i ≤ place
  pub ranges : All (Range n) a.learned
  pub levels : All (λ l. get_or t.levels (node l) 0 < length t.trail_limits) a.learned
  pub placed : All (Earlier t (length t.trail)) a.learned
  pub apart : Distinct a.learned
  pub holds : (vs : List Bool) → Satisfied vs cs → Ground vs t → clause_value vs (negate p ∷ a.learned) ≡ true

-- the analysis ended, and what it answers
abbrev pub AnalysisEnded : ℕ → List Clause → Assignment → Resolution → Type 0
AnalysisEnded n cs t (resolving a i id v) = ⊥
AnalysisEnded n cs t (resolved a p) = Analyzed n cs t a p

module _ (n : ℕ) (s : Solver) (inv : TrailInv n s.assignment) (d : ℕ) (top : length s.assignment.trail_limits ≡ suc d) (reasoned : Reasoned s.assignment s.clauses)
    (in_range : (id i : ℕ) → i < length (lits s.clauses id) → Range n (get_or (lits s.clauses id) i 0)) where
  -- the assignment at the conflict
  abbrev t : Assignment
  t = s.assignment

  -- every level begins at the current one's place or before
  current-last : (p : ℕ) → limit_at t d ≤ p → (i : ℕ) → i < length t.trail_limits → limit_at t i ≤ p
  current-last p h i hi = by_eq i d (λ e. omega (arith, ap (limit_at t) e)) (λ e. omega (arith, inv.rise i d (omega arith) (omega arith)))

  ended : (r : Resolution) → ResolutionOk n t inv d top s.clauses reasoned in_range 0 r → AnalysisEnded n s.clauses t r
  ended (resolving a i id v) w =
      omega (arith, w.live, w.fuel, count_low t (limit_at t d) (see_literals t (node w.pivot) a (lits s.clauses id)).seen i (omega (arith, w.fuel)))
  ended (resolved a p) w =
      record {
        size = w.size;
        place = w.place;
        place_in = w.place_in;
        here = w.here;
        current = current-last w.place w.current;
        ranges = all_map (Learned n t inv d top a.seen) (Range n) (λ l z. z.range) a.learned w.learned;
        levels = all_map (Learned n t inv d top a.seen) (λ l. get_or t.levels (node l) 0 < length t.trail_limits) (λ l z. z.below) a.learned w.learned;
        placed = all_map (Learned n t inv d top a.seen) (Earlier t (length t.trail)) (λ l z. z.placed) a.learned w.learned;
        apart = w.apart;
        holds = λ vs sat g. w.holds vs (sat, g);
      }

  rounds_ok : (k : ℕ) (r : Resolution) → ResolutionOk n t inv d top s.clauses reasoned in_range k r → AnalysisEnded n s.clauses t (resolve_rounds k s r)
  unfolding resolve_rounds resolve_round
  rounds_ok zero r w = ended r w
  rounds_ok (suc k) (resolving a i id v) w = rounds_ok k (resolve_round s a i id v) (round_ok n t inv d top s.clauses reasoned in_range k a i id v w)
  rounds_ok (suc k) (resolved a p) w =
      ended (resolved a p)
      (record { size = w.size; learned = w.learned; apart = w.apart; place = w.place; place_in = w.place_in; current = w.current; here = w.here; holds = w.holds })

  -- the analysis of a conflict ends
  pub analyze-ends : length s.scores.activity ≡ n → (id p : ℕ) → p < length t.trail → limit_at t d ≤ p → Conflicting s id p → AnalysisEnded n s.clauses t (analyze s id)
  unfolding analyze no_analysis node
  analyze-ends size id p hp low c =
      let m = length t.trail in
      let a = no_analysis s in
      let ls = lits s.clauses id in
      let z = c.one in
      let unmarked : (v : ℕ) → get_or a.seen v false ≡ true → ⊥ = λ v e. false≢true (sym (get_or-replicate (length t.assignments) v false) ∙ e) in
      let one-node : node (get_or ls z 0) ≡ node (entry t p) = sym (ap node c.one_here ∙ node-negate (get_or ls z 0)) in
      rounds_ok m (resolving a m id 0)
      (record {
        pivot = 0;
        same = refl;
        ok =
            record {
              size = size;
              seen_size = length-replicate (length t.assignments) false ∙ inv.size;
              learned = tt;
              apart = tt;
              opened = sym (count_none t (limit_at t d) a.seen m (λ q z. unmarked (node (entry t q)) z.0));
              noted = λ vs q low h e. absurd (unmarked (node (entry t q)) e);
            };
        inside = omega arith;
        fuel = omega arith;
        known = c.known;
        away = λ q h e. omega (arith, (inv.range q h).0);
        before = λ i h. inr (c.all i h);
        live =
            count-some t (limit_at t d) (see_literals t 0 a ls).seen m p hp (
              ap (λ u. get_or (see_literals t 0 a ls).seen u false) (sym one-node)
                  ∙ literals-new n t inv d top 0 a ls z (length-replicate (length t.assignments) false ∙ inv.size) c.one_in (in_range id z c.one_in).1
                  (λ e. omega (arith, (in_range id z c.one_in).0)) (λ e. omega (arith, e, ap (λ u. get_or t.levels u 0) one-node, current-level n t inv d top p hp low)),
              low,
            );
        pending = λ vs sat. inr (λ r. absurd (omega (arith, r.0)));
      })
