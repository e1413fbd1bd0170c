-- Backtracking: the cut of the trail at a level keeps the trail's invariant. Assumes nothing.
use Rattle.std.specs.Prelude.{ℕ, zero, suc, ◌+◌, ◌-◌, ◌≤◌, ◌<◌, refl, ◌≢◌, ◌⊎◌, List, [], ◌∷◌, length, get_or, set, drop}
use native.Mathlib.Omega.{arith}
use Rattle.std.proofs.Math.Path.{◌≡◌, ap}
use Rattle.std.proofs.Common.{sym, subst, ◌∙◌, length-set, get_or-set_other, get_or-take, get_or-drop, length-take-le}
use Rattle.std.proofs.Math.Logic.{inl, inr}
use Rattle.std.proofs.Math.Option.{none, some}
use Rattle.std.proofs.Math.ListN.{length-drop}
use Rattle.model.specs.Literal.{Literal, node}
use Rattle.laws.specs.Search.Trail.{entry, limit_at, Placed, OnTrail, Low, Strict, TrailInv}
use Rattle.facts.specs.Lists.{get_or-set_default}
use Rattle.facts.specs.Numbers.{by_eq, by_lt}
use Rattle.model.specs.Sat.{Unassigned, True, Assignment, literal_value, value, unassign, unassign_all, cut_trail}

-- ---- backtracking

unassign-trail : (ls : List Literal) (t : Assignment) → (unassign_all t ls).trail ≡ t.trail
unfolding unassign_all unassign
unassign-trail [] t = refl
unassign-trail (l ∷ ls) t = unassign-trail ls (unassign t l)

unassign_limits : (ls : List Literal) (t : Assignment) → (unassign_all t ls).trail_limits ≡ t.trail_limits
unfolding unassign_all unassign
unassign_limits [] t = refl
unassign_limits (l ∷ ls) t = unassign_limits ls (unassign t l)

unassign-size : (ls : List Literal) (t : Assignment) → length (unassign_all t ls).assignments ≡ length t.assignments
unfolding unassign_all unassign
unassign-size [] t = refl
unassign-size (l ∷ ls) t = unassign-size ls (unassign t l) ∙ length-set t.assignments (node l) Unassigned

unassign-levels : (ls : List Literal) (t : Assignment) → length (unassign_all t ls).levels ≡ length t.levels
unfolding unassign_all unassign
unassign-levels [] t = refl
unassign-levels (l ∷ ls) t = unassign-levels ls (unassign t l) ∙ length-set t.levels (node l) 0

unassign-reasons : (ls : List Literal) (t : Assignment) → length (unassign_all t ls).reasons ≡ length t.reasons
unfolding unassign_all unassign
unassign-reasons [] t = refl
unassign-reasons (l ∷ ls) t = unassign-reasons ls (unassign t l) ∙ length-set t.reasons (node l) none

unassign-phases : (ls : List Literal) (t : Assignment) → length (unassign_all t ls).phases ≡ length t.phases
unfolding unassign_all unassign
unassign-phases [] t = refl
unassign-phases (l ∷ ls) t = unassign-phases ls (unassign t l)

-- the variable is among the literals, and cleared
pub record Cleared (t u : Assignment) (ls : List Literal) (v : ℕ) : Type 0 where
  pub place : ℕ
  pub inside : place < length ls
  pub here : node (get_or ls place 0) ≡ v
  pub unset : get_or u.assignments v Unassigned ≡ Unassigned
  pub level : get_or u.levels v 0 ≡ 0
  pub reason : get_or u.reasons v none ≡ none

-- the variable is not among the literals, and is as it was
pub record Untouched (t u : Assignment) (ls : List Literal) (v : ℕ) : Type 0 where
  pub absent : (i : ℕ) → i < length ls → node (get_or ls i 0) ≢ v
  pub same : get_or u.assignments v Unassigned ≡ get_or t.assignments v Unassigned
  pub level : get_or u.levels v 0 ≡ get_or t.levels v 0
  pub reason : get_or u.reasons v none ≡ get_or t.reasons v none

unassign_cases : (ls : List Literal) (t : Assignment) (v : ℕ) → Cleared t (unassign_all t ls) ls v ⊎ Untouched t (unassign_all t ls) ls v
unfolding unassign_all unassign
unassign_cases [] t v = inr (record { absent = λ i h. omega arith; same = refl; level = refl; reason = refl })
unassign_cases (l ∷ ls) t v = go (unassign_cases ls (unassign t l) v)
  where
    absent_cons : node l ≢ v → ((i : ℕ) → i < length ls → node (get_or ls i 0) ≢ v) → (i : ℕ) → i < length (l ∷ ls) → node (get_or (l ∷ ls) i 0) ≢ v
    absent_cons a f zero h = a
    absent_cons a f (suc i) h = f i (omega arith)

    go : Cleared (unassign t l) (unassign_all (unassign t l) ls) ls v ⊎ Untouched (unassign t l) (unassign_all (unassign t l) ls) ls v
        → Cleared t (unassign_all t (l ∷ ls)) (l ∷ ls) v ⊎ Untouched t (unassign_all t (l ∷ ls)) (l ∷ ls) v
    go (inl c) =
        inl
        (record { place = suc c.place; inside = omega (arith, c.inside); here = c.here; unset = c.unset; level = c.level; reason = c.reason })
    go (inr c) =
        by_eq (node l) v
        (λ e.
        inl
        (record {
          place = 0;
          inside = omega arith;
          here = e;
          unset = c.same ∙ subst (λ x. get_or (set t.assignments x Unassigned) v Unassigned ≡ Unassigned) (sym e) (get_or-set_default t.assignments v Unassigned);
          level = c.level ∙ subst (λ x. get_or (set t.levels x 0) v 0 ≡ 0) (sym e) (get_or-set_default t.levels v 0);
          reason = c.reason ∙ subst (λ x. get_or (set t.reasons x none) v none ≡ none) (sym e) (get_or-set_default t.reasons v none);
        }))
        (λ e.
        let e' : v ≢ node l = λ q. e (sym q) in
        inr
        (record {
          absent = absent_cons e c.absent;
          same = c.same ∙ get_or-set_other t.assignments (node l) v Unassigned Unassigned e';
          level = c.level ∙ get_or-set_other t.levels (node l) v 0 0 e';
          reason = c.reason ∙ get_or-set_other t.reasons (node l) v none none e';
        }))

-- the cut at place `limit-at t level`
module _ (n : ℕ) (t : Assignment) (w : TrailInv n t) (level : ℕ) (inside : level < length t.trail_limits) where
  -- the number of literals that stay
  abbrev pub cut_place : ℕ
  cut_place = limit_at t level

  -- the assignment after the cut
  abbrev pub cut : Assignment
  cut = cut_trail (unassign_all t (drop cut_place t.trail)) cut_place level

  -- they are on the trail
  pub cut_fits : cut_place ≤ length t.trail
  cut_fits = w.fits level inside

  -- the trail after the cut
  pub cut-length : length cut.trail ≡ cut_place
  unfolding cut_trail
  cut-length = rw (unassign-trail (drop cut_place t.trail) t) (length-take-le cut_place t.trail cut_fits)

  -- what stays keeps its place
  pub cut-entry : (p : ℕ) → p < cut_place → entry cut p ≡ entry t p
  unfolding cut_trail
  cut-entry p h = rw (unassign-trail (drop cut_place t.trail) t) (get_or-take cut_place t.trail p 0 h)

  -- the levels that stay
  pub cut-levels : length cut.trail_limits ≡ level
  unfolding cut_trail
  cut-levels = rw (unassign_limits (drop cut_place t.trail) t) (length-take-le level t.trail_limits (omega arith))

  -- begin where they did
  pub cut-limit : (i : ℕ) → i < level → limit_at cut i ≡ limit_at t i
  unfolding cut_trail
  cut-limit i h = rw (unassign_limits (drop cut_place t.trail) t) (get_or-take level t.trail_limits i 0 h)

  -- what became of a variable
  cut_cases : (v : ℕ) → Cleared t cut (drop cut_place t.trail) v ⊎ Untouched t cut (drop cut_place t.trail) v
  unfolding cut_trail
  cut_cases v = go (unassign_cases (drop cut_place t.trail) t v)
    where
      go : Cleared t (unassign_all t (drop cut_place t.trail)) (drop cut_place t.trail) v ⊎ Untouched t (unassign_all t (drop cut_place t.trail)) (drop cut_place t.trail) v
          → Cleared t cut (drop cut_place t.trail) v ⊎ Untouched t cut (drop cut_place t.trail) v
      go (inl c) = inl (record { place = c.place; inside = c.inside; here = c.here; unset = c.unset; level = c.level; reason = c.reason })
      go (inr c) = inr (record { absent = c.absent; same = c.same; level = c.level; reason = c.reason })

  -- a variable at a place after the cut is cleared
  cleared_at : (p : ℕ) → cut_place ≤ p → p < length t.trail → (v : ℕ) → node (entry t p) ≡ v → get_or cut.levels v 0 ≡ 0
  cleared_at p a b v e = go (cut_cases v)
    where
      go : Cleared t cut (drop cut_place t.trail) v ⊎ Untouched t cut (drop cut_place t.trail) v → get_or cut.levels v 0 ≡ 0
      go (inl c) = c.level
      go (inr c) =
          let q : cut_place + (p - cut_place) ≡ p = omega arith in
          absurd
          (c.absent (p - cut_place) (omega (arith, length-drop cut_place t.trail))
          (ap node (get_or-drop cut_place t.trail (p - cut_place) 0) ∙ ap (λ i. node (entry t i)) q ∙ e))

  cut-true : (p : ℕ) → p < cut_place → value cut (entry t p) ≡ True
  unfolding value
  cut-true p h = go (cut_cases (node (entry t p)))
    where
      go : Cleared t cut (drop cut_place t.trail) (node (entry t p)) ⊎ Untouched t cut (drop cut_place t.trail) (node (entry t p))
          → value cut (entry t p) ≡ True
      go (inl c) =
          absurd
          (w.apart p (cut_place + c.place) (omega arith) (omega (arith, c.inside, length-drop cut_place t.trail))
          (sym c.here ∙ ap node (get_or-drop cut_place t.trail c.place 0)))
      go (inr c) = rw c.same (w.true_at p (omega (arith, cut_fits)))

  -- a variable that stays keeps its level and its reason
  pub cut_stays : (p : ℕ) → p < cut_place
      → (get_or cut.levels (node (entry t p)) 0 ≡ get_or t.levels (node (entry t p)) 0) × (get_or cut.reasons (node (entry t p)) none ≡ get_or t.reasons (node (entry t p)) none)
  cut_stays p h = go (cut_cases (node (entry t p)))
    where
      go : Cleared t cut (drop cut_place t.trail) (node (entry t p)) ⊎ Untouched t cut (drop cut_place t.trail) (node (entry t p))
          → (get_or cut.levels (node (entry t p)) 0 ≡ get_or t.levels (node (entry t p)) 0) × (get_or cut.reasons (node (entry t p)) none ≡ get_or t.reasons (node (entry t p)) none)
      go (inl c) =
          absurd
          (w.apart p (cut_place + c.place) (omega arith) (omega (arith, c.inside, length-drop cut_place t.trail))
          (sym c.here ∙ ap node (get_or-drop cut_place t.trail c.place 0)))
      go (inr c) = (c.level, c.reason)

  -- a reason after the cut was one before
  pub cut-reason : (v id : ℕ) → get_or cut.reasons v none ≡ some id → get_or t.reasons v none ≡ some id
  cut-reason v id e = go (cut_cases v)
    where
      go : Cleared t cut (drop cut_place t.trail) v ⊎ Untouched t cut (drop cut_place t.trail) v → get_or t.reasons v none ≡ some id
      go (inl c) = absurd (let q : none ≡ some id = sym c.reason ∙ e in let z : ◌≡◌ {A = ℕ} 0 1 = cc in omega arith)
      go (inr c) = sym c.reason ∙ e

  cut_on : (l : Literal) → value cut l ≡ True → OnTrail cut l
  unfolding value literal_value
  cut_on l e = go (cut_cases (node l))
    where
      go : Cleared t cut (drop cut_place t.trail) (node l) ⊎ Untouched t cut (drop cut_place t.trail) (node l) → OnTrail cut l
      go (inl c) = absurd (let q : Unassigned ≡ True = rw c.unset at e in let z : ◌≡◌ {A = ℕ} 0 1 = cc in omega arith)
      go (inr c) =
          let o = w.on_trail l (rw c.same at e) in
          by_lt o.0 cut_place (λ lt. (o.0, rw cut-length lt, cut-entry o.0 lt ∙ o.2))
          (λ ge.
          let q : cut_place + (o.0 - cut_place) ≡ o.0 = omega arith in
          absurd
          (c.absent (o.0 - cut_place) (omega (arith, o.1, length-drop cut_place t.trail))
          (ap node (get_or-drop cut_place t.trail (o.0 - cut_place) 0) ∙ ap (λ i. node (entry t i)) q ∙ ap node o.2)))

  cut_le : (v : ℕ) → get_or cut.levels v 0 ≤ get_or t.levels v 0
  cut_le v = go (cut_cases v)
    where
      go : Cleared t cut (drop cut_place t.trail) v ⊎ Untouched t cut (drop cut_place t.trail) v → get_or cut.levels v 0 ≤ get_or t.levels v 0
      go (inl c) = omega (arith, c.level)
      go (inr c) = omega (arith, c.level)

  cut_level : (v : ℕ) → get_or cut.levels v 0 ≤ level
  cut_level v = go (w.level_place v level inside)
    where
      go : (get_or t.levels v 0 ≤ level) ⊎ Placed t cut_place v → get_or cut.levels v 0 ≤ level
      go (inl h) = omega (arith, cut_le v)
      go (inr o) = omega (arith, cleared_at o.0 o.1 o.2 v o.3)

  cut-level-place : (v i : ℕ) → i < level → (get_or cut.levels v 0 ≤ i) ⊎ Placed cut (limit_at t i) v
  cut-level-place v i h = go (w.level_place v i (omega arith))
    where
      go : (get_or t.levels v 0 ≤ i) ⊎ Placed t (limit_at t i) v → (get_or cut.levels v 0 ≤ i) ⊎ Placed cut (limit_at t i) v
      go (inl q) = inl (omega (arith, cut_le v))
      go (inr o) =
          by_lt o.0 cut_place (λ lt. inr (o.0, o.1, rw cut-length lt, ap node (cut-entry o.0 lt) ∙ o.3))
          (λ ge. inl (omega (arith, cleared_at o.0 ge o.2 v o.3)))

  -- the levels that stay begin before the cut
  cut-before : (i : ℕ) → i < length cut.trail_limits → limit_at cut i < cut_place
  cut-before i h = let b : i < level = omega (arith, cut-levels) in rw (cut-limit i b) (w.rise i level b inside)

  -- no level begins after the cut
  pub cut_low : Low cut_place cut
  cut_low i h = omega (arith, cut-before i h)

  -- and each begins before the trail's end
  pub cut-strict : Strict cut
  cut-strict i h = omega (arith, cut-before i h, cut-length)

  -- the cut keeps the invariant
  pub cut-inv : TrailInv n cut
  unfolding cut_trail
  cut-inv =
      record {
        size = unassign-size (drop cut_place t.trail) t ∙ w.size;
        range = λ p h. let q : p < cut_place = omega (arith, cut-length) in rw (cut-entry p q) (w.range p (omega (arith, cut_fits)));
        true_at = λ p h. let q : p < cut_place = omega (arith, cut-length) in rw (cut-entry p q) (cut-true p q);
        on_trail = cut_on;
        apart =
            λ p q a h.
            let b : q < cut_place = omega (arith, cut-length) in
            let c : p < cut_place = omega arith in
            rw (cut-entry p c, cut-entry q b) (w.apart p q a (omega (arith, cut_fits)));
        head = omega (arith, cut-length);
        rise =
            λ i j a h.
            let b : j < level = omega (arith, cut-levels) in
            let c : i < level = omega arith in
            rw (cut-limit i c, cut-limit j b) (w.rise i j a (omega arith));
        fits = λ i h. omega (arith, cut-before i h, cut-length);
        level = λ v. rw cut-levels (cut_level v);
        level_place = λ v i h. let b : i < level = omega (arith, cut-levels) in rw (cut-limit i b) (cut-level-place v i b);
        deep =
            λ p i hp hi hl.
            let b : i < level = omega (arith, cut-levels) in
            let q : p < cut_place = omega (arith, cut-length) in
            rw (cut-entry p q, (cut_stays p q).0) (w.deep p i (omega (arith, cut_fits)) (omega arith) (rw (cut-limit i b) at hl));
        level_size = unassign-levels (drop cut_place t.trail) t ∙ w.level_size;
        reason_size = unassign-reasons (drop cut_place t.trail) t ∙ w.reason_size;
        phase_size = unassign-phases (drop cut_place t.trail) t ∙ w.phase_size;
      }
