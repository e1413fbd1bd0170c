-- The marks of an analysis: how many places of the current level are seen, and the last of them. Assumes nothing.
use Prim.Native.Nat.{ℕ, zero, suc, ◌+◌, ◌≤◌, ◌<◌}
use native.Mathlib.Omega.{arith}
use Rattle.std.specs.Prelude.{◌≡◌, ◌≢◌, ◌⊎◌, Bool, ◌&&◌, cond, List}
use Rattle.std.proofs.Math.Path.{refl, subst}
use Rattle.std.proofs.Common.{sym, ◌∙◌}
use Rattle.std.proofs.Math.Logic.{inl, inr}
use Rattle.std.proofs.Math.Bool.{true, false, false≢true}
use Rattle.std.proofs.Math.ListN.{get_or}
use Rattle.std.proofs.Math.Dec.{leb}
use borrow.Author.Tests.{leb-true, leb-false}
use Rattle.model.specs.Literal.{node}
use Rattle.model.specs.Sat.{Assignment, pivot_index}
use Rattle.facts.specs.Numbers.{by_eq, by_lt}
use Rattle.laws.specs.Search.Trail.{entry}

-- the current level begins at place D
module _ (t : Assignment) (D : ℕ) where
  -- how many places of the current level before i are seen
  pub count : List Bool → ℕ → ℕ
  count seen zero = 0
  count seen (suc i) = cond (get_or seen (node (entry t i)) false && leb D i) 1 0 + count seen i

  -- the place is seen and of the current level
  abbrev pub Hit : List Bool → ℕ → Type 0
  Hit seen i = (get_or seen (node (entry t i)) false ≡ true) × (D ≤ i)

  -- a place counts exactly where it is hit
  abbrev Counts : List Bool → ℕ → Type 0
  Counts seen i = (Hit seen i × (count seen (suc i) ≡ suc (count seen i))) ⊎ ((Hit seen i → ⊥) × (count seen (suc i) ≡ count seen i))

  counts : (seen : List Bool) (i : ℕ) → Counts seen i
  unfolding count
  counts seen i = go (get_or seen (node (entry t i)) false) (leb D i) refl refl
    where
      go : (a b : Bool) → get_or seen (node (entry t i)) false ≡ a → leb D i ≡ b → Counts seen i
      go true true p q = inl ((p, leb-true D i q), rw (p, q) (omega arith))
      go true false p q = inr ((λ h. omega (arith, leb-false D i q, h.1)), rw (p, q) (omega arith))
      go false b p q = inr ((λ h. false≢true (sym p ∙ h.0)), rw p (omega arith))

  -- more hits count no less
  pub count_le : (a b : List Bool) (i : ℕ) → ((q : ℕ) → q < i → Hit a q → Hit b q) → count a i ≤ count b i
  unfolding count
  count_le a b zero f = omega arith
  count_le a b (suc i) f = go (counts a i) (counts b i) (count_le a b i (λ q h. f q (omega arith)))
    where
      go : Counts a i → Counts b i → count a i ≤ count b i → count a (suc i) ≤ count b (suc i)
      go (inl x) (inl y) ih = omega (arith, x.1, y.1)
      go (inl x) (inr y) ih = absurd (y.0 (f i (omega arith) x.0))
      go (inr x) (inl y) ih = omega (arith, x.1, y.1)
      go (inr x) (inr y) ih = omega (arith, x.1, y.1)

  -- the same hits count the same
  pub count_same : (a b : List Bool) (i : ℕ) → ((q : ℕ) → q < i → Hit a q → Hit b q) → ((q : ℕ) → q < i → Hit b q → Hit a q) → count b i ≡ count a i
  count_same a b i f g = omega (arith, count_le a b i f, count_le b a i g)

  -- a seen place of the current level counts
  pub count-some : (a : List Bool) (i q : ℕ) → q < i → Hit a q → 1 ≤ count a i
  unfolding count
  count-some a zero q h x = absurd (omega arith)
  count-some a (suc i) q h x = go (counts a i) (λ lt. count-some a i q lt x)
    where
      go : Counts a i → (q < i → 1 ≤ count a i) → 1 ≤ count a (suc i)
      go (inl y) ih = omega (arith, y.1)
      go (inr y) ih = by_eq q i (λ e. absurd (y.0 (subst (Hit a) e x))) (λ e. omega (arith, y.1, ih (omega arith)))

  -- one place more is hit
  pub count-more : (a b : List Bool) (i q : ℕ) → q < i → ((p : ℕ) → p < i → Hit a p → Hit b p) → ((p : ℕ) → p < i → p ≢ q → Hit b p → Hit a p) → (Hit a q → ⊥) → Hit b q
      → count b i ≡ suc (count a i)
  unfolding count
  count-more a b zero q h f g x y = absurd (omega arith)
  count-more a b (suc i) q h f g x y =
      go (counts a i) (counts b i) (λ lt. count-more a b i q lt (λ p hp. f p (omega arith)) (λ p hp. g p (omega arith)) x y)
    where
      same : q ≡ i → count b i ≡ count a i
      same e = count_same a b i (λ p hp. f p (omega arith)) (λ p hp. g p (omega arith) (λ z. omega arith))

      go : Counts a i → Counts b i → (q < i → count b i ≡ suc (count a i)) → count b (suc i) ≡ suc (count a (suc i))
      go (inl u) (inl v) ih = by_eq q i (λ e. absurd (x (subst (Hit a) (sym e) u.0))) (λ e. omega (arith, u.1, v.1, ih (omega arith)))
      go (inl u) (inr v) ih = absurd (v.0 (f i (omega arith) u.0))
      go (inr u) (inl v) ih = by_eq q i (λ e. omega (arith, u.1, v.1, same e)) (λ e. absurd (u.0 (g i (omega arith) (λ z. e (sym z)) v.0)))
      go (inr u) (inr v) ih = by_eq q i (λ e. absurd (v.0 (subst (Hit b) e y))) (λ e. omega (arith, u.1, v.1, ih (omega arith)))

  -- none before the current level
  pub count_low : (a : List Bool) (i : ℕ) → i ≤ D → count a i ≡ 0
  unfolding count
  count_low a zero h = refl
  count_low a (suc i) h = go (counts a i) (count_low a i (omega arith))
    where
      go : Counts a i → count a i ≡ 0 → count a (suc i) ≡ 0
      go (inl y) ih = absurd (omega (arith, y.0.1))
      go (inr y) ih = y.1 ∙ ih

  -- none where no place is hit
  pub count_none : (a : List Bool) (i : ℕ) → ((q : ℕ) → Hit a q → ⊥) → count a i ≡ 0
  unfolding count
  count_none a zero f = refl
  count_none a (suc i) f = go (counts a i) (count_none a i f)
    where
      go : Counts a i → count a i ≡ 0 → count a (suc i) ≡ 0
      go (inl y) ih = absurd (f i y.0)
      go (inr y) ih = y.1 ∙ ih

  -- the last seen place before i, which is of the current level
  pub record Last (a : List Bool) (i j : ℕ) : Type 0 where
    pub below : j < i
    pub hit : Hit a j
    pub last : (q : ℕ) → j < q → q < i → get_or a (node (entry t q)) false ≡ false
    pub counted : count a i ≡ suc (count a j)

  -- the pivot is that place, where one is hit
  pub pivot-last : (a : List Bool) (i : ℕ) → 1 ≤ count a i → Last a i (pivot_index t a i)
  unfolding count pivot_index
  pivot-last a zero h = absurd (omega arith)
  pivot-last a (suc i) h = go (get_or a (node (entry t i)) false) refl (counts a i) (pivot-last a i)
    where
      go : (b : Bool) → get_or a (node (entry t i)) false ≡ b → Counts a i → (1 ≤ count a i → Last a i (pivot_index t a i)) → Last a (suc i) (pivot_index t a (suc i))
      go true e (inl x) ih = rw (e, pivot_index) (record { below = omega arith; hit = x.0; last = λ q u v. absurd (omega arith); counted = x.1 })
      go true e (inr x) ih =
          by_lt i D (λ lt. absurd (let z : count a i ≡ 0 = count_low a i (omega arith) in let y : 1 ≤ count a (suc i) = h in omega (arith, x.1)))
          (λ ge. absurd (x.0 (e, ge)))
      go false e (inl x) ih = absurd (false≢true (sym e ∙ x.0.0))
      go false e (inr x) ih =
          let y : 1 ≤ count a (suc i) = h in
          let r = ih (omega (arith, x.1)) in
          rw (e, pivot_index)
          (record {
            below = omega (arith, r.below);
            hit = r.hit;
            last = λ q u v. by_eq q i (λ z. subst (λ k. get_or a (node (entry t k)) false ≡ false) (sym z) e) (λ z. r.last q u (omega arith));
            counted = x.1 ∙ r.counted;
          })
