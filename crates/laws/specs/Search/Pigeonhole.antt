-- Distinct numbers below n are at most n, so the trail is never longer than the number of variables. Assumes nothing.
use Rattle.std.specs.Prelude.{ℕ, zero, suc, ◌≤◌, ◌<◌, ◌≡◌, refl, ◌≢◌, ◌⊎◌, length}
use Rattle.std.proofs.Common.{arith, sym, ◌∙◌, inl, inr}
use Rattle.std.proofs.Math.Decide.{ℕ_discrete}
use Rattle.model.specs.Literal.{node}
use Rattle.laws.specs.Search.Trail.{entry, TrailInv}
use Rattle.model.specs.Sat.{Assignment}

-- a where the value is n, else the value
instead : ℕ → ℕ → ℕ → ℕ
instead a n x = go (ℕ_discrete x n)
  where
    go : Dec (x ≡ n) → ℕ
    go (yes e) = a
    go (no e) = x

instead_cases : (a n x : ℕ) → ((x ≡ n) × (instead a n x ≡ a)) ⊎ ((x ≢ n) × (instead a n x ≡ x))
unfolding instead
instead_cases a n x = elim (ℕ_discrete x n) as (λ d. ((x ≡ n) × (elim d as (λ _. ℕ) [ yes e ↦ a | no e ↦ x ] ≡ a)) ⊎ ((x ≢ n) × (elim d as (λ _. ℕ) [ yes e ↦ a | no e ↦ x ] ≡ x))) [ yes e ↦ inl (e, refl) | no e ↦ inr (e, refl) ]

-- m distinct numbers below n: m is at most n
pub pigeon : (n m : ℕ) (f : ℕ → ℕ) → ((p : ℕ) → p < m → f p < n) → ((p q : ℕ) → p < q → q < m → f p ≢ f q) → m ≤ n
pigeon n zero f b d = omega arith
pigeon zero (suc m) f b d = absurd (omega (arith, b 0 (omega arith)))
pigeon (suc n) (suc m) f b d = omega (arith, pigeon n m (λ p. instead (f m) n (f p)) below apart)
  where
    below : (p : ℕ) → p < m → instead (f m) n (f p) < n
    below p h = go (instead_cases (f m) n (f p))
      where
        go : ((f p ≡ n) × (instead (f m) n (f p) ≡ f m)) ⊎ ((f p ≢ n) × (instead (f m) n (f p) ≡ f p)) → instead (f m) n (f p) < n
        go (inl c) = omega (arith, c.1, c.0, b m (omega arith), d p m h (omega arith))
        go (inr c) = omega (arith, c.1, c.0, b p (omega arith))

    apart : (p q : ℕ) → p < q → q < m → instead (f m) n (f p) ≢ instead (f m) n (f q)
    apart p q a h e = go (instead_cases (f m) n (f p)) (instead_cases (f m) n (f q))
      where
        go : ((f p ≡ n) × (instead (f m) n (f p) ≡ f m)) ⊎ ((f p ≢ n) × (instead (f m) n (f p) ≡ f p))
            → ((f q ≡ n) × (instead (f m) n (f q) ≡ f m)) ⊎ ((f q ≢ n) × (instead (f m) n (f q) ≡ f q)) → ⊥
        go (inl c) (inl k) = d p q a (omega arith) (c.0 ∙ sym k.0)
        go (inl c) (inr k) = d q m (omega arith) (omega arith) (sym k.1 ∙ sym e ∙ c.1)
        go (inr c) (inl k) = d p m (omega arith) (omega arith) (sym c.1 ∙ e ∙ k.1)
        go (inr c) (inr k) = d p q a (omega arith) (sym c.1 ∙ e ∙ k.1)

-- the trail's length is at most the number of variables
pub trail-fits : (n : ℕ) (t : Assignment) → TrailInv n t → length t.trail ≤ n
trail-fits n t w = pigeon n (length t.trail) (λ p. node (entry t p)) (λ p h. (w.range p h).1) w.apart
