-- The trail's invariant by places, kept by `assign`, `enqueue` and a new decision level. Assumes nothing.
use Rattle.std.specs.Prelude.{ℕ, ◌≤◌, ◌<◌, ◌≡◌, ◌≢◌, ◌⊎◌, not, set}
use Rattle.std.proofs.Common.{arith, ◌∙◌, get_or-set_same, get_or-set_other}
use Rattle.std.proofs.Math.Path.{sym, ap, subst}
use Rattle.std.proofs.Math.Logic.{inl, inr}
use Rattle.std.proofs.Math.Option.{Option}
use Rattle.std.proofs.Math.ListN.{length, get_or, length-set}
use Rattle.model.specs.Literal.{Literal, node, inverted}
use Rattle.model.specs.Lists.{snoc}
use Rattle.facts.specs.Lists.{get_or-set_le}
use Rattle.facts.specs.Numbers.{by_eq, by_lt}
use Rattle.laws.specs.Lists.{get_or-snoc-old, get_or-snoc-new, snoc-all, length-snoc}
use Rattle.laws.specs.Search.Values.{unset-apart, value-new, value-old, value_only}
use Rattle.model.specs.Sat.{Unassigned, True, Assignment, value, making_true, decision_level, assign, push_limit}

-- ---- the invariant

-- the literal at a place of the trail
abbrev pub entry : Assignment → ℕ → Literal
entry t p = get_or t.trail p 0

-- the place where a decision level begins
abbrev pub limit_at : Assignment → ℕ → ℕ
limit_at t i = get_or t.trail_limits i 0

-- the variable stands on the trail at place a or later
abbrev pub Placed : Assignment → ℕ → ℕ → Type 0
Placed t a v = (p : ℕ) × (a ≤ p) × (p < length t.trail) × (node (entry t p) ≡ v)

-- the literal stands on the trail
abbrev pub OnTrail : Assignment → Literal → Type 0
OnTrail t l = (p : ℕ) × (p < length t.trail) × (entry t p ≡ l)

-- no level begins after place b
abbrev pub Low : ℕ → Assignment → Type 0
Low b t = (i : ℕ) → i < length t.trail_limits → limit_at t i ≤ b

-- every level begins before the trail's end
abbrev pub Strict : Assignment → Type 0
Strict t = (i : ℕ) → i < length t.trail_limits → limit_at t i < length t.trail

-- a literal of a variable from 1 to n - 1
abbrev pub Range : ℕ → Literal → Type 0
Range n l = (1 ≤ node l) × (node l < n)

-- the trail over n variables: its literals are true, distinct and in range, its levels rise, and each level holds the places from its beginning on
pub record TrailInv (n : ℕ) (t : Assignment) : Type 0 where
  pub size : length t.assignments ≡ n
  pub range : (p : ℕ) → p < length t.trail → Range n (entry t p)
  pub true_at : (p : ℕ) → p < length t.trail → value t (entry t p) ≡ True
  pub on_trail : (l : Literal) → value t l ≡ True → OnTrail t l
  pub apart : (p q : ℕ) → p < q → q < length t.trail → node (entry t p) ≢ node (entry t q)
  pub head : t.propagation_head ≤ length t.trail
  pub rise : (i j : ℕ) → i < j → j < length t.trail_limits → limit_at t i < limit_at t j
  pub fits : Low (length t.trail) t
  pub level : (v : ℕ) → get_or t.levels v 0 ≤ length t.trail_limits
  pub level_place : (v i : ℕ) → i < length t.trail_limits → (get_or t.levels v 0 ≤ i) ⊎ Placed t (limit_at t i) v
  pub deep : (p i : ℕ) → p < length t.trail → i < length t.trail_limits → limit_at t i ≤ p → i < get_or t.levels (node (entry t p)) 0
  pub level_size : length t.levels ≡ n
  pub reason_size : length t.reasons ≡ n
  pub phase_size : length t.phases ≡ n

-- ---- assign

module _ (n : ℕ) (t : Assignment) (l : Literal) (r : Option ℕ) where
  -- what is on the trail stays there
  pub on-snoc : (k : Literal) → OnTrail t k → OnTrail (assign t l r) k
  unfolding assign
  on-snoc k o = (o.0, omega (arith, o.1, length-snoc t.trail l), get_or-snoc-old t.trail l 0 o.0 o.1 ∙ o.2)

  -- the assigned literal is on the trail
  pub new-on : OnTrail (assign t l r) l
  unfolding assign
  new-on = (length t.trail, omega (arith, length-snoc t.trail l), get_or-snoc-new t.trail l 0)

  module _ (w : TrailInv n t) (h : Range n l) (u : value t l ≡ Unassigned) where
    fresh : (p : ℕ) → p < length t.trail → node (entry t p) ≢ node l
    fresh p q = unset-apart t l (entry t p) u (w.true_at p q)

    bound : node l < length t.assignments
    bound = rw w.size h.1

    assign-on : (k : Literal) → value (assign t l r) k ≡ True → OnTrail (assign t l r) k
    assign-on k e =
        by_eq (node k) (node l) (λ q. subst (λ x. OnTrail (assign t l r) x) (sym (value_only t l k r bound q e)) new-on)
        (λ q. on-snoc k (w.on_trail k (sym (value-old t l k r q) ∙ e)))

    assign-apart : (p q : ℕ) → p < q → q < length (assign t l r).trail → node (entry (assign t l r) p) ≢ node (entry (assign t l r) q)
    unfolding assign
    assign-apart p q a b =
        by_lt q (length t.trail)
        (λ lt e. w.apart p q a lt (ap node (sym (get_or-snoc-old t.trail l 0 p (omega arith))) ∙ e ∙ ap node (get_or-snoc-old t.trail l 0 q lt)))
        (λ ge e.
        let z : length t.trail ≡ q = omega (arith, length-snoc t.trail l) in
        let y : get_or (snoc t.trail l) q 0 ≡ l = subst (λ i. get_or (snoc t.trail l) i 0 ≡ l) z (get_or-snoc-new t.trail l 0) in
        fresh p (omega arith) (ap node (sym (get_or-snoc-old t.trail l 0 p (omega arith))) ∙ e ∙ ap node y))

    assign-level : (v : ℕ) → get_or (assign t l r).levels v 0 ≤ length t.trail_limits
    unfolding assign decision_level
    assign-level v =
        by_eq v (node l) (λ e. rw e (get_or-set_le t.levels (node l) (length t.trail_limits)))
        (λ e. rw (get_or-set_other t.levels (node l) v (length t.trail_limits) 0 e) (w.level v))

    placed_snoc : (a v : ℕ) → Placed t a v → Placed (assign t l r) a v
    unfolding assign
    placed_snoc a v o = (o.0, o.1, omega (arith, o.2, length-snoc t.trail l), ap node (get_or-snoc-old t.trail l 0 o.0 o.2) ∙ o.3)

    assign-place : (v i : ℕ) → i < length t.trail_limits → (get_or (assign t l r).levels v 0 ≤ i) ⊎ Placed (assign t l r) (limit_at t i) v
    unfolding assign decision_level
    assign-place v i hi =
        by_eq v (node l)
        (λ e. inr (length t.trail, w.fits i hi, omega (arith, length-snoc t.trail l), ap node (get_or-snoc-new t.trail l 0) ∙ sym e))
        (λ e. go e (w.level_place v i hi))
      where
        go : v ≢ node l → (get_or t.levels v 0 ≤ i) ⊎ Placed t (limit_at t i) v
            → (get_or (set t.levels (node l) (length t.trail_limits)) v 0 ≤ i) ⊎ Placed (assign t l r) (limit_at t i) v
        go e (inl x) = inl (rw (get_or-set_other t.levels (node l) v (length t.trail_limits) 0 e) x)
        go e (inr x) = inr (placed_snoc (limit_at t i) v x)

    range-levels : node l < length t.levels
    range-levels = rw w.level_size h.1

    assign-deep : (p i : ℕ) → p < length (assign t l r).trail → i < length t.trail_limits → limit_at t i ≤ p
        → i < get_or (assign t l r).levels (node (entry (assign t l r) p)) 0
    unfolding assign decision_level
    assign-deep p i hp hi hl =
        snoc-all 0 (λ q x. limit_at t i ≤ q → i < get_or (set t.levels (node l) (length t.trail_limits)) (node x) 0) t.trail l
        (λ q hq h. rw (get_or-set_other t.levels (node l) (node (entry t q)) (length t.trail_limits) 0 (fresh q hq)) (w.deep q i hq hi h))
        (λ h. rw (get_or-set_same t.levels (node l) (length t.trail_limits) 0 range-levels) hi) p hp hl

    -- an unassigned literal in range made true
    pub assign-inv : TrailInv n (assign t l r)
    unfolding assign
    assign-inv =
        record {
          size = length-set t.assignments (node l) (making_true (inverted l)) ∙ w.size;
          range = snoc-all 0 (λ p x. Range n x) t.trail l w.range h;
          true_at =
              snoc-all 0 (λ p x. value (assign t l r) x ≡ True) t.trail l
              (λ p q. value-old t l (entry t p) r (fresh p q) ∙ w.true_at p q) (value-new t l r bound);
          on_trail = assign-on;
          apart = assign-apart;
          head = omega (arith, w.head, length-snoc t.trail l);
          rise = w.rise;
          fits = λ i q. omega (arith, w.fits i q, length-snoc t.trail l);
          level = assign-level;
          level_place = assign-place;
          deep = assign-deep;
          level_size = length-set t.levels (node l) (decision_level t) ∙ w.level_size;
          reason_size = length-set t.reasons (node l) r ∙ w.reason_size;
          phase_size = length-set t.phases (node l) (not (inverted l)) ∙ w.phase_size;
        }

-- ---- a new decision level

module _ (n : ℕ) (t : Assignment) (w : TrailInv n t) (strict : Strict t) where
  push_rise : (i j : ℕ) → i < j → j < length (push_limit t).trail_limits → limit_at (push_limit t) i < limit_at (push_limit t) j
  unfolding push_limit
  push_rise i j a b =
      snoc-all 0 (λ k x. i < k → get_or (snoc t.trail_limits (length t.trail)) i 0 < x) t.trail_limits (length t.trail)
      (λ k q c. rw (get_or-snoc-old t.trail_limits (length t.trail) 0 i (omega arith)) (w.rise i k c q))
      (λ c. rw (get_or-snoc-old t.trail_limits (length t.trail) 0 i c) (strict i c)) j b a

  push_low : Low (length t.trail) (push_limit t)
  unfolding push_limit
  push_low = snoc-all 0 (λ i x. x ≤ length t.trail) t.trail_limits (length t.trail) w.fits (omega arith)

  -- one more level, which begins at the trail's end
  pub push_inv : TrailInv n (push_limit t)
  unfolding push_limit value
  push_inv =
      record {
        size = w.size;
        range = w.range;
        true_at = w.true_at;
        on_trail = w.on_trail;
        apart = w.apart;
        head = w.head;
        rise = push_rise;
        fits = push_low;
        level = λ v. omega (arith, w.level v, length-snoc t.trail_limits (length t.trail));
        level_place =
            λ v.
            snoc-all 0 (λ i x. (get_or t.levels v 0 ≤ i) ⊎ Placed t x v) t.trail_limits (length t.trail)
            (λ i q. w.level_place v i q) (inl (w.level v));
        deep =
            λ p i hp hi hl.
            snoc-all 0 (λ k x. x ≤ p → k < get_or t.levels (node (entry t p)) 0) t.trail_limits (length t.trail)
            (λ k hk h. w.deep p k hp hk h) (λ h. absurd (omega arith)) i hi hl;
        level_size = w.level_size;
        reason_size = w.reason_size;
        phase_size = w.phase_size;
      }
