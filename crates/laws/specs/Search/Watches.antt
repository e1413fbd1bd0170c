-- The watch invariant of the original clauses: its parts, and what keeps them. Assumes nothing.
use Rattle.std.specs.Prelude.{ℕ, suc, ◌≤◌, ◌<◌, ◌≡◌, ◌⊎◌, List, [], ◌∷◌, ◌++◌, length, get_or, set}
use Rattle.std.proofs.Common.{arith, sym, ap, subst, ◌∙◌, inl, inr, length-set}
use Rattle.std.proofs.Math.Option.{Option}
use Rattle.model.specs.Literal.{Literal, negate}
use Rattle.model.specs.Lists.{snoc}
use Rattle.laws.specs.Search.Backtrack.{cut, cut_place, cut-length, cut-entry, cut-levels, cut-limit}
use Rattle.facts.specs.Lists.{set_any, In, in_cases}
use Rattle.facts.specs.Numbers.{by_eq}
use Rattle.laws.specs.Lists.{get_or-snoc-old, snoc-all, length-snoc}
use Rattle.laws.specs.Search.Trail.{entry, limit_at, OnTrail, Low, TrailInv}
use Rattle.model.specs.Sat.{Assignment, assign, push_limit, push_watch}

-- ---- membership

-- every number in a watch list is below k
abbrev pub ListedIn : List (List ℕ) → ℕ → Type 0
ListedIn w k = (l id : ℕ) → In id (get_or w l []) → id < k

-- one list made longer by numbers below k
pub append_in : (w : List (List ℕ)) (l : Literal) (ids : List ℕ) (k : ℕ) → ((id : ℕ) → In id ids → id < k) → ListedIn w k → ListedIn (set w l (get_or w l [] ++ ids)) k
append_in w l ids k f h m = set_any (λ xs. (j : ℕ) → In j xs → j < k) w l m (get_or w l [] ++ ids) [] (h m) (λ j q. go j (in_cases j (get_or w l []) ids q))
  where
    go : (j : ℕ) → In j (get_or w l []) ⊎ In j ids → j < k
    go j (inl q) = h l j q
    go j (inr q) = f j q

-- one more clause that is there
pub push_in : (w : List (List ℕ)) (l : Literal) (id k : ℕ) → id < k → ListedIn w k → ListedIn (push_watch w l id) k
unfolding push_watch snoc
push_in w l id k e h = append_in w l (id ∷ []) k (λ j q. one j q) h
  where
    one : (j : ℕ) → In j (id ∷ []) → j < k
    one j (inl z) = omega (arith, z)
    one j (inr z) = absurd z

-- no list is added
pub push_size : (w : List (List ℕ)) (l : Literal) (id : ℕ) → length (push_watch w l id) ≡ length w
unfolding push_watch
push_size w l id = length-set w l (snoc (get_or w l []) id)

-- ---- the parts of the invariant

-- l is true, at no higher level than place p
abbrev pub TrueBy : Assignment → ℕ → Literal → Type 0
TrueBy t p l =
    (q : ℕ) × (q < length t.trail) × (entry t q ≡ l) × ((i : ℕ) → i < length t.trail_limits → p < limit_at t i → q < limit_at t i)

-- l is true at level 0
abbrev pub Fixed : Assignment → Literal → Type 0
Fixed t l = (q : ℕ) × (q < length t.trail) × (entry t q ≡ l) × ((i : ℕ) → i < length t.trail_limits → q < limit_at t i)

-- where w is false at a place before b, k is true at no higher level
abbrev pub Safe : Assignment → ℕ → Literal → Literal → Type 0
Safe t b w k = (p : ℕ) → p < b → w ≡ negate (entry t p) → TrueBy t p k

-- two watched literals, each safe by the other up to trail place b
pub record Pair (t : Assignment) (b : ℕ) (k l : Literal) : Type 0 where
  pub safe0 : Safe t b k l
  pub safe1 : Safe t b l k

-- the two in the other order
pub pair_swap : {t : Assignment} {b : ℕ} {k l : Literal} → Pair t b k l → Pair t b l k
pair_swap w = record { safe0 = w.safe1; safe1 = w.safe0 }

-- another trail that is as safe
pub pair-map : {t u : Assignment} {a b : ℕ} {k l : Literal} → ((x y : Literal) → Safe t a x y → Safe u b x y) → Pair t a k l → Pair u b k l
pair-map g w = record { safe0 = g _ _ w.safe0; safe1 = g _ _ w.safe1 }

-- fewer places
pub safe_less : (t : Assignment) (a b : ℕ) → b ≤ a → (w k : Literal) → Safe t a w k → Safe t b w k
safe_less t a b h w k f p q e = f p (omega arith) e

-- one place more
pub safe_more : (t : Assignment) (p : ℕ) (f w k : Literal) → f ≡ negate (entry t p) → Safe t p w k → (w ≡ f → TrueBy t p k) → Safe t (suc p) w k
safe_more t p f w k here s g q h e =
    by_eq q p (λ z. subst (λ i. TrueBy t i k) (sym z) (g (e ∙ ap (λ i. negate (entry t i)) z ∙ sym here))) (λ z. s q (omega arith) e)

-- a true literal is so at no higher level than the last level's places
pub true-low : (t : Assignment) (p : ℕ) (k : Literal) → Low p t → OnTrail t k → TrueBy t p k
true-low t p k low o = (o.0, o.1, o.2, λ i h lt. absurd (omega (arith, low i h)))

-- ---- assign

module _ (t : Assignment) (l : Literal) (r : Option ℕ) where
  true-assign : (p : ℕ) (k : Literal) → TrueBy t p k → TrueBy (assign t l r) p k
  unfolding assign
  true-assign p k o =
      (o.0, omega (arith, o.1, length-snoc t.trail l), get_or-snoc-old t.trail l 0 o.0 o.1 ∙ o.2, o.3)

  -- what is fixed stays so when a literal is assigned
  pub fixed-assign : (k : Literal) → Fixed t k → Fixed (assign t l r) k
  unfolding assign
  fixed-assign k o =
      (o.0, omega (arith, o.1, length-snoc t.trail l), get_or-snoc-old t.trail l 0 o.0 o.1 ∙ o.2, o.3)

  -- and what is safe
  pub safe_assign : (b : ℕ) → b ≤ length t.trail → (w k : Literal) → Safe t b w k → Safe (assign t l r) b w k
  safe_assign b h w k s p lt e =
      true-assign p k (s p lt (e ∙ ap negate (unfold assign in get_or-snoc-old t.trail l 0 p (omega arith))))

-- ---- a new level

module _ (t : Assignment) where
  -- the same for a new level
  pub fixed_push : (k : Literal) → Fixed t k → Fixed (push_limit t) k
  unfolding push_limit
  fixed_push k o = (o.0, o.1, o.2, snoc-all 0 (λ i x. o.0 < x) t.trail_limits (length t.trail) o.3 o.1)

  -- and what is safe
  pub safe_push : (b : ℕ) (w k : Literal) → Safe t b w k → Safe (push_limit t) b w k
  unfolding push_limit
  safe_push b w k s p lt e =
      let o = s p lt e in
      (o.0, o.1, o.2, snoc-all 0 (λ i x. p < x → o.0 < x) t.trail_limits (length t.trail) o.3 (λ _. o.1))

-- ---- the cut

module _ (n : ℕ) (t : Assignment) (w : TrailInv n t) (level : ℕ) (inside : level < length t.trail_limits) where
  -- the number of literals that stay
  abbrev place : ℕ
  place = cut_place n t w level inside

  -- the assignment after the cut
  abbrev after : Assignment
  after = cut n t w level inside

  -- the same for the cut
  pub fixed-cut : (k : Literal) → Fixed t k → Fixed after k
  fixed-cut k o =
      let h : o.0 < place = o.3 level inside in (
        o.0,
        rw (cut-length n t w level inside) h,
        cut-entry n t w level inside o.0 h ∙ o.2,
        λ i hi.
            let b : i < level = omega (arith, cut-levels n t w level inside) in
            rw (cut-limit n t w level inside i b) (o.3 i (omega arith)),
      )

  -- and what is safe
  pub safe_cut : (b : ℕ) → place ≤ b → (x k : Literal) → Safe t b x k → Safe after place x k
  safe_cut b h x k s p lt e =
      let o = s p (omega arith) (e ∙ ap negate (cut-entry n t w level inside p lt)) in
      let q : o.0 < place = o.3 level inside lt in (
        o.0,
        rw (cut-length n t w level inside) q,
        cut-entry n t w level inside o.0 q ∙ o.2,
        λ i hi lp.
            let c : i < level = omega (arith, cut-levels n t w level inside) in
            rw (cut-limit n t w level inside i c) (o.3 i (omega arith) (rw (cut-limit n t w level inside i c) at lp)),
      )
