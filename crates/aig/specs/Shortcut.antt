-- What an operation answers without a node, and what is known where it has no such answer. Assumes nothing.
use Rattle.std.specs.Prelude.{◌≡◌, refl, Bool, true, false, ◌&&◌, ◌||◌, cond, ℕ, ◌+◌, ◌-◌, ◌*◌, ◌/◌, ◌%◌, ◌≤◌, ◌<◌}
use Rattle.std.proofs.Math.Option.{Option, none, some}
use Rattle.std.proofs.Common.{arith, eqb-true}
use Rattle.std.proofs.Math.Dec.{eqb}
use Rattle.std.proofs.lemmas.Bool.{eqb-false}
use Rattle.model.specs.Literal.{negate, inverted}
use Rattle.model.specs.Aig.{and_shortcut, xor_shortcut, mux_shortcut}
use Rattle.aig.specs.Graph.{Ascending}
use Rattle.aig.specs.Index.{place, place-some}
use Rattle.std.specs.Prelude.{Some, None, Option as Answer}
use Rattle.literals.specs.declared.Literal.{Literal}

-- the model's answer that a shortcut stands for
unfoldable pub shortcut_of : Answer Literal → Option ℕ
shortcut_of (Some l) = some l.0
shortcut_of None = none

-- the model's place that a node found stands for
unfoldable pub found_of : Answer ℕ → Option ℕ
found_of (Some i) = some i
found_of None = none

-- a place that is one, and none
pub found-some : (i : ℕ) → 0 < i → found_of (Some i) ≡ place i
unfolding found_of
found-some i h = place-some i h

pub found-none : found_of None ≡ place 0
unfolding found_of place
found-none = refl

-- an answer below m, or none
abbrev pub Under : ℕ → Option ℕ → Type 0
Under m none = Unit {0}
Under m (some l) = l < m

by_cond : {A : Type 0} (P : A → Type 0) (t : Bool) (x y : A) → P x → P y → P (cond t x y)
by_cond P true x y p q = p
by_cond P false x y p q = q

pub negate-below : (l n : ℕ) → l < n * 2 → negate l < n * 2
unfolding negate inverted
negate-below l n h = go (eqb (l % 2) 1) refl
  where
    go : (t : Bool) → eqb (l % 2) 1 ≡ t → cond t (l - 1) (l + 1) < n * 2
    go true e = omega (arith, eqb-true (l % 2) 1 e)
    go false e = omega (arith, eqb-false (l % 2) 1 e)

module _ (n : ℕ) (h : 0 < n) where
  pub and_under : (a b : ℕ) → a < n * 2 → b < n * 2 → Under (n * 2) (and_shortcut a b)
  unfolding and_shortcut
  and_under a b p q =
      by_cond (Under (n * 2)) (eqb a 0 || eqb b 0) _ _ (omega arith)
      (by_cond (Under (n * 2)) (eqb a 1) _ _ q
      (by_cond (Under (n * 2)) (eqb b 1 || eqb a b) _ _ p
      (by_cond (Under (n * 2)) (eqb a (negate b)) (some 0) none (omega arith) tt)))

  pub xor_under : (a b : ℕ) → Under (n * 2) (xor_shortcut a b)
  unfolding xor_shortcut
  xor_under a b =
      by_cond (Under (n * 2)) (eqb a b) _ _ (omega arith)
      (by_cond (Under (n * 2)) (eqb a (negate b)) (some 1) none (omega arith) tt)

  pub mux_under : (c t e : ℕ) → c < n * 2 → t < n * 2 → e < n * 2 → Under (n * 2) (mux_shortcut c t e)
  unfolding mux_shortcut
  mux_under c t e p q r =
      by_cond (Under (n * 2)) (eqb c 1) _ _ q
      (by_cond (Under (n * 2)) (eqb c 0) _ _ r
      (by_cond (Under (n * 2)) (eqb t e) _ _ q
      (by_cond (Under (n * 2)) (eqb t 1 && eqb e 0) _ _ p
      (by_cond (Under (n * 2)) (eqb t 0 && eqb e 1) (some (negate c)) none (negate-below c n p) tt))))

-- a conjunction without a shortcut has no constant, and its operands are of different nodes
pub and-apart : (a b : ℕ) → and_shortcut a b ≡ none → (2 ≤ a) × (2 ≤ b) × (a / 2 ≡ b / 2 → ⊥)
unfolding and_shortcut negate inverted
and-apart a b = go (eqb a 0) (eqb b 0) (eqb a 1) (eqb b 1) (eqb a b) (eqb (b % 2) 1) refl refl refl refl refl refl
  where
    none-some : {l : ℕ} → ◌≡◌ {A = Option ℕ} (some l) none → ⊥
    none-some e = let z : ◌≡◌ {A = ℕ} 0 1 = cc in omega arith

    last : (k : ℕ) → ◌≡◌ {A = Option ℕ} (cond (eqb a k) (some 0) none) none → a ≡ k → ⊥
    last k e q = rest (eqb a k) refl e
      where
        rest : (t : Bool) → eqb a k ≡ t → ◌≡◌ {A = Option ℕ} (cond t (some 0) none) none → ⊥
        rest true f e = none-some e
        rest false f e = eqb-false a k f q

    go : (s t u v x y : Bool) → eqb a 0 ≡ s → eqb b 0 ≡ t → eqb a 1 ≡ u → eqb b 1 ≡ v → eqb a b ≡ x → eqb (b % 2) 1 ≡ y
        → ◌≡◌ {A = Option ℕ} (cond (s || t) (some 0) (cond u (some b) (cond (v || x) (some a) (cond (eqb a (cond y (b - 1) (b + 1))) (some 0) none)))) none
        → (2 ≤ a) × (2 ≤ b) × (a / 2 ≡ b / 2 → ⊥)
    go true t u v x y p q r m n o e = absurd (none-some e)
    go false true u v x y p q r m n o e = absurd (none-some e)
    go false false true v x y p q r m n o e = absurd (none-some e)
    go false false false true x y p q r m n o e = absurd (none-some e)
    go false false false false true y p q r m n o e = absurd (none-some e)
    go false false false false false true p q r m n o e = (
      omega (arith, eqb-false a 0 p, eqb-false a 1 r),
      omega (arith, eqb-false b 0 q, eqb-false b 1 m),
      λ h. last (b - 1) e (omega (arith, eqb-false a b n, eqb-true (b % 2) 1 o)),
    )
    go false false false false false false p q r m n o e = (
      omega (arith, eqb-false a 0 p, eqb-false a 1 r),
      omega (arith, eqb-false b 0 q, eqb-false b 1 m),
      λ h. last (b + 1) e (omega (arith, eqb-false a b n, eqb-false (b % 2) 1 o)),
    )

-- so they ascend where they are ordered
pub and-ascending : (a b : ℕ) → and_shortcut a b ≡ none → a ≤ b → Ascending a b
and-ascending a b e h = let q = and-apart a b e in (q.0, omega (arith, q.2))

pub and_descending : (a b : ℕ) → and_shortcut a b ≡ none → b ≤ a → Ascending b a
and_descending a b e h = let q = and-apart a b e in (q.1, omega (arith, q.2))
