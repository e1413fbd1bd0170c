-- The queries that a check asks: the first of them, their order, what is told of each, and that the largest total is within the limit. Assumes nothing.
use Rattle.std.specs.Prelude.{ℕ, zero, suc, ◌≤◌, ◌<◌, ◌≡◌, refl, ◌⊎◌, Bool, ltb}
use native.Mathlib.Omega.{arith}
use Rattle.std.proofs.Common.{ap, subst, ◌∙◌, lt-ltb}
use Rattle.std.proofs.Math.Logic.{inl, inr}
use Rattle.std.proofs.Math.Bool.{true, false}
use mathlib.Core.List.{List, [], ◌∷◌, ◌++◌, Memᴰ}
use Rattle.model.specs.Answers.{Asked}
use Rattle.model.specs.Lists.{snoc}
use Rattle.model.specs.Options.{Options, first_query}
use Rattle.model.specs.Netlist.{Design}
use Rattle.model.specs.Run.{StoredBits}
use Rattle.model.specs.Equivalence.{Problem, Query, ask, Verdict, asked_too, prove_sequential_equivalence, larger_learned, largest_from, largest_learned}
use Rattle.model.specs.Check.{problem_of, check_designs}
use Rattle.facts.specs.Bools.{by_cond}
use Rattle.facts.specs.Lists.{All, all_map}
use Rattle.laws.specs.Lists.{all_snoc, all-member}
use Rattle.laws.specs.Terms.{answer_total, QueryOf, Told, Sooner}
use Rattle.laws.specs.Search.Total.{solve-total}
use Rattle.laws.proofs.Search.Answered.{Ended, solve-ends}
use Rattle.laws.proofs.Check.Queries.{askable}
use Rattle.laws.proofs.Check.Walk.{Asking, nothing, first, deeper, further, Walked, all_passed, last_gave_up, last_decided, prove_walk, asked_low, asking-high, walk-all}

-- ---- lists

-- each stands before those asked after it
abbrev Ordered : List Asked → Type 0
Ordered [] = Unit {0}
Ordered (a ∷ rest) = All (Sooner a) rest × Ordered rest

ordered-snoc : (xs : List Asked) (x : Asked) → Ordered xs → All (λ a. Sooner a x) xs → Ordered (snoc xs x)
unfolding snoc
ordered-snoc [] x h f = (tt, tt)
ordered-snoc (a ∷ xs) x h f = (all_snoc (Sooner a) xs x h.0 f.0, ordered-snoc xs x h.1 f.1)

ordered-next : (before after : List Asked) (a b : Asked) → Ordered (before ++ (a ∷ b ∷ after)) → Sooner a b
ordered-next [] after a b h = h.0.0
ordered-next (x ∷ before) after a b h = ordered-next before after a b h.1

ordered-later : (before after : List Asked) (a : Asked) → Ordered (before ++ (a ∷ after)) → All (Sooner a) after
ordered-later [] after a h = h.0
ordered-later (x ∷ before) after a h = ordered-later before after a h.1

-- ---- the largest total

-- what every query asked has, the one that learned most has
from-has : (P : Asked → Type 0) (a : Asked) (rest : List Asked) → P a → All P rest → P (largest_from a rest)
unfolding largest_from larger_learned
from-has P a [] h f = h
from-has P a (b ∷ bs) h f = from-has P (larger_learned a b) bs (by_cond P {t = ltb a.learned b.learned} (λ _. f.0) (λ _. h)) f.1

largest_has : (P : Asked → Type 0) → P (record { depth = 0; query = 0; learned = 0 }) → (asked : List Asked) → All P asked → P (largest_learned asked)
unfolding largest_learned
largest_has P z [] f = z
largest_has P z (a ∷ rest) f = from-has P a rest f.0 f.1

-- begun from a query of depth 1 with no literal it is the same, where that query is the first
pub largest_from-first : (k n : ℕ) (rest : List Asked)
    → largest_from (record { depth = 1; query = k; learned = 0 }) (record { depth = 1; query = k; learned = n } ∷ rest) ≡ largest_learned (record { depth = 1; query = k; learned = n } ∷ rest)
unfolding largest_from largest_learned larger_learned
largest_from-first k zero rest = refl
largest_from-first k (suc n) rest = rw (lt-ltb 0 (suc n) (omega arith))

-- ---- the walk of a check

module _ (earliest : Bool) (limit : ℕ) (p : Problem) (D : ℕ) where
  -- ---- the first query asked

  -- the list begins with the first query of depth 1, unless that is asked next, or none is
  abbrev pub Begins : ℕ → ℕ → List Asked → Type 0
  Begins d k [] = (D ≡ 0) ⊎ ((d ≡ 1) × (k ≡ first_query earliest))
  Begins d k (a ∷ rest) = (a.depth ≡ 1) × (a.query ≡ first_query earliest)

  first_small : (e : Bool) → first_query e ≤ 1
  unfolding first_query
  first_small true = omega arith
  first_small false = omega arith

  begins-deeper : (d : ℕ) (earlier : List Asked) → suc d ≤ D → Begins d 5 earlier → Begins (suc d) 1 earlier
  begins-deeper d [] low (inl z) = absurd (omega arith)
  begins-deeper d [] low (inr z) = absurd (omega (arith, z.1, first_small earliest))
  begins-deeper d (a ∷ rest) low h = h

  begins-further : (d k next n : ℕ) (earlier : List Asked) → 1 ≤ D → Begins d k earlier → Begins d next (asked_too earlier d k n)
  unfolding asked_too snoc
  begins-further d k next n [] low (inl z) = absurd (omega arith)
  begins-further d k next n [] low (inr z) = z
  begins-further d k next n (a ∷ rest) low h = h

  -- where a query is asked there is a depth
  some-depth : (d k : ℕ) (earlier : List Asked) (q : Query) → Asking earliest limit p D d k earlier → QueryOf p d k q → 1 ≤ D
  some-depth d k earlier q h w = omega (arith, asked_low earliest limit p D d k earlier q h w, asking-high earliest limit p D d k earlier h)

  pub asking-begins : (d k : ℕ) (earlier : List Asked) → Asking earliest limit p D d k earlier → Begins d k earlier
  asking-begins d k earlier (nothing z) = inl z
  asking-begins d k earlier (first l) = inr (refl, refl)
  asking-begins d k earlier (deeper {d = c} l h m) = begins-deeper c earlier m (asking-begins c 5 earlier h)
  asking-begins d k earlier (further {k = j} {earlier = es} q a n h w e t l) =
      begins-further d j k (answer_total a) es (some-depth d j es q h w) (asking-begins d j es h)

  -- after the first query of depth 1 it does
  begun : (d k : ℕ) (asked : List Asked) → 1 ≤ D → 2 ≤ k → Begins d k asked → (n : ℕ) × (rest : List Asked) × (asked ≡ record { depth = 1; query = first_query earliest; learned = n } ∷ rest)
  begun d k [] low after (inl z) = absurd (omega arith)
  begun d k [] low after (inr z) = absurd (omega (arith, z.1, first_small earliest))
  begun d k (a ∷ rest) low after z = (
    a.learned,
    rest,
    ap (λ (x : ℕ). record { depth = x; query = a.query; learned = a.learned } ∷ rest) z.0 ∙ ap (λ (x : ℕ). record { depth = 1; query = x; learned = a.learned } ∷ rest) z.1,
  )

  last-begun : (d k n : ℕ) (earlier : List Asked) (q : Query) → Asking earliest limit p D d k earlier → QueryOf p d k q
      → (m : ℕ) × (rest : List Asked) × (asked_too earlier d k n ≡ record { depth = 1; query = first_query earliest; learned = m } ∷ rest)
  last-begun d k n earlier q h w =
      let low = some-depth d k earlier q h w in
      begun d 5 (asked_too earlier d k n) low (omega arith) (begins-further d k 5 n earlier low (asking-begins d k earlier h))

  walk-begun : (v : Verdict) (asked : List Asked) → 1 ≤ D → Walked earliest limit p D v asked → (n : ℕ) × (rest : List Asked) × (asked ≡ record { depth = 1; query = first_query earliest; learned = n } ∷ rest)
  walk-begun v asked low (all_passed h) = begun D 5 asked low (omega arith) (asking-begins D 5 asked h)
  walk-begun v asked low (last_gave_up {d = d} {k = k} {earlier = es} q n h w e) = last-begun d k n es q h w
  walk-begun v asked low (last_decided {d = d} {k = k} {earlier = es} q a h w e t f) = last-begun d k (answer_total a) es q h w

  -- ---- their order

  sooner_deeper : (d n m : ℕ) (a : Asked) → Sooner a (record { depth = d; query = 5; learned = n }) → Sooner a (record { depth = suc d; query = 1; learned = m })
  unfolding Sooner
  sooner_deeper d n m a (inl h) = inl (omega arith)
  sooner_deeper d n m a (inr h) = inl (omega (arith, h.0))

  sooner_further : (d k next n m : ℕ) → k < next → (a : Asked) → Sooner a (record { depth = d; query = k; learned = n }) → Sooner a (record { depth = d; query = next; learned = m })
  unfolding Sooner
  sooner_further d k next n m l a (inl h) = inl h
  sooner_further d k next n m l a (inr h) = inr (h.0, omega (arith, h.1))

  -- all are asked before the next
  asking_sooner : (d k n : ℕ) (earlier : List Asked) → Asking earliest limit p D d k earlier → All (λ a. Sooner a (record { depth = d; query = k; learned = n })) earlier
  unfolding Sooner asked_too
  asking_sooner d k n earlier (nothing z) = tt
  asking_sooner d k n earlier (first l) = tt
  asking_sooner d k n earlier (deeper {d = c} l h m) = all_map _ _ (sooner_deeper c n n) earlier (asking_sooner c 5 n earlier h)
  asking_sooner d k n earlier (further {k = j} {earlier = es} q a next h w e t l) =
      all_snoc _ es _ (all_map _ _ (sooner_further d j k n n l) es (asking_sooner d j n es h)) (inr (refl, l))

  one_later : (d k n : ℕ) (earlier : List Asked) → Asking earliest limit p D d k earlier → Ordered earlier → Ordered (asked_too earlier d k n)
  unfolding asked_too
  one_later d k n earlier h o = ordered-snoc earlier _ o (asking_sooner d k n earlier h)

  asking-ordered : (d k : ℕ) (earlier : List Asked) → Asking earliest limit p D d k earlier → Ordered earlier
  asking-ordered d k earlier (nothing z) = tt
  asking-ordered d k earlier (first l) = tt
  asking-ordered d k earlier (deeper {d = c} l h m) = asking-ordered c 5 earlier h
  asking-ordered d k earlier (further {k = j} {earlier = es} q a next h w e t l) = one_later d j (answer_total a) es h (asking-ordered d j es h)

  walk-ordered : (v : Verdict) (asked : List Asked) → Walked earliest limit p D v asked → Ordered asked
  walk-ordered v asked (all_passed h) = asking-ordered D 5 asked h
  walk-ordered v asked (last_gave_up {d = d} {k = k} {earlier = es} q n h w e) = one_later d k n es h (asking-ordered d k es h)
  walk-ordered v asked (last_decided {d = d} {k = k} {earlier = es} q a h w e t f) = one_later d k (answer_total a) es h (asking-ordered d k es h)

  -- ---- what is told of each

  query_told : (d k : ℕ) (q : Query) → QueryOf p d k q → 1 ≤ d → d ≤ D → Told limit p D (record { depth = d; query = k; learned = answer_total (ask limit q) })
  unfolding ask
  query_told d k q w low high =
      let a = askable p d k q w in
      let x : Ended limit q.aig q.assumptions (ask limit q) = solve-ends limit q.aig q.assumptions a.formed a.inside in
      record {
        low = low;
        high = high;
        query = q;
        named = w;
        state = x.state;
        ended = x.ended;
        total = x.total;
        sum = x.sum;
        within = solve-total limit q.aig q.assumptions;
      }

module _ (earliest : Bool) (limit : ℕ) (p : Problem) where
  -- the first query asked is the first of depth 1
  pub asked-first : (D : ℕ) → 1 ≤ D → (n : ℕ) × (rest : List Asked) × ((prove_sequential_equivalence earliest limit p D).asked ≡ record { depth = 1; query = first_query earliest; learned = n } ∷ rest)
  asked-first D low = walk-begun earliest limit p D _ _ low (prove_walk limit p earliest D)

  -- the largest total is within the limit
  pub largest_within : (D : ℕ) → (largest_learned (prove_sequential_equivalence earliest limit p D).asked).learned ≤ limit
  largest_within D =
      largest_has (λ a. a.learned ≤ limit) (omega arith) (prove_sequential_equivalence earliest limit p D).asked
      (walk-all earliest limit p D (λ a. a.learned ≤ limit) (λ d k q w low high. unfold ask in solve-total limit q.aig q.assumptions) _ _ (prove_walk limit p earliest D))

-- ---- two designs, from any start bits

module _ (o : Options) (gold gate : Design) (s t : StoredBits) where
  -- the first query asked is the first of depth 1
  pub designs_first : 1 ≤ o.depth → (n : ℕ) × (rest : List Asked) × ((check_designs o gold gate s t).asked ≡ record { depth = 1; query = first_query o.earliest; learned = n } ∷ rest)
  unfolding check_designs
  designs_first low = asked-first o.earliest o.limit (problem_of gold gate s t) o.depth low

  -- each is asked before the one that stands after it
  pub designs_ordered : (before after : List Asked) (a b : Asked) → (check_designs o gold gate s t).asked ≡ before ++ (a ∷ b ∷ after) → Sooner a b
  unfolding check_designs
  designs_ordered before after a b e =
      let p = problem_of gold gate s t in ordered-next before after a b (subst Ordered e (walk-ordered o.earliest o.limit p o.depth _ _ (prove_walk o.limit p o.earliest o.depth)))

  -- and so before every one that stands after it
  pub designs_later : (before after : List Asked) (a : Asked) → (check_designs o gold gate s t).asked ≡ before ++ (a ∷ after) → (b : Asked) → Memᴰ b after → Sooner a b
  unfolding check_designs
  designs_later before after a e b m =
      let p = problem_of gold gate s t in
      all-member (Sooner a) after (ordered-later before after a (subst Ordered e (walk-ordered o.earliest o.limit p o.depth _ _ (prove_walk o.limit p o.earliest o.depth)))) b m

  -- each is told with the total of the state in which its search ends
  pub designs_told : (a : Asked) → Memᴰ a (check_designs o gold gate s t).asked → Told o.limit (problem_of gold gate s t) o.depth a
  unfolding check_designs
  designs_told a m =
      let p = problem_of gold gate s t in
      all-member _ _ (walk-all o.earliest o.limit p o.depth (Told o.limit p o.depth) (query_told o.earliest o.limit p o.depth) _ _ (prove_walk o.limit p o.earliest o.depth)) a m
