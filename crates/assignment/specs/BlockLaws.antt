-- Laws of the choice of a range: two ranges joined, and the plain choice over all variables. Assumes nothing.
use Rattle.std.specs.Prelude.{◌≡◌, Bool, cond, List, drop, Float}
use Rattle.std.proofs.Math.Path.{refl, ap}
use Rattle.std.proofs.Common.{sym, ◌∙◌, arith, add-one, drop_of_length-le, drop-cons}
use Rattle.std.proofs.Math.Bool.{true, false, false≢true}
use Prim.Native.Nat.{ℕ, zero, suc, ◌+◌, ◌<◌, ◌≤◌}
use Rattle.std.proofs.Math.ListN.{length, take, get_or}
use Rattle.std.specs.Float.{nan}
use Rattle.std.specs.Float.Ieee.{lt}
use Rattle.facts.specs.Numbers.{by_lt}
use Rattle.facts.specs.Floats.{lt-self, lt-once, lt_le, le_lt, le_le, lt-lt}
use Rattle.model.specs.Sat as Sat
use Rattle.assignment.specs.State.{assignment_of}
use Rattle.assignment.specs.Scores.{best_of}
use Rattle.assignment.specs.ScoreLaws.{score-is}
use Rattle.assignment.specs.declared.state.Trail.{Trail}
use Rattle.assignment.specs.Blocks.{score, Free, Ahead, Leads, Unsigned, higher_of, LeadsIn}

-- ---- who is ahead

pub ahead_self : (xs : List Float) (v : ℕ) → Ahead xs v v
ahead_self xs v = record { higher = λ h. absurd (omega arith); level = λ h. lt-self (score xs v) }

module _ (xs : List Float) (u : Unsigned xs) where
  pub ahead_both : (v w x : ℕ) → Ahead xs v w → Ahead xs w x → Ahead xs v x
  ahead_both v w x f g =
      let p = u v in
      let q = u w in
      let r = u x in
      record {
        higher = λ h.
            by_lt w v
            (λ a. by_lt x w
            (λ b. lt-lt (score xs x) (score xs w) (score xs v) r q p (g.higher b) (f.higher a))
            (λ b. le_lt (score xs x) (score xs w) (score xs v) r q p (g.level b) (f.higher a)))
            (λ a. lt_le (score xs x) (score xs w) (score xs v) r q p (g.higher (omega arith)) (f.level a));
        level = λ h.
            by_lt w v
            (λ a. lt-once (score xs x) (score xs v) r p (le_lt (score xs x) (score xs w) (score xs v) r q p (g.level (omega arith)) (f.higher a)))
            (λ a. by_lt x w
            (λ b. lt-once (score xs x) (score xs v) r p (lt_le (score xs x) (score xs w) (score xs v) r q p (g.higher b) (f.level a)))
            (λ b. le_le (score xs x) (score xs w) (score xs v) r q p (g.level b) (f.level a)));
      }

-- two variables that are ahead of each other are one
pub ahead_one : (xs : List Float) (v w : ℕ) → Ahead xs v w → Ahead xs w v → v ≡ w
ahead_one xs v w f g =
    by_lt v w (λ h. absurd (false≢true (sym (f.level (omega arith)) ∙ g.higher h)))
    (λ h. by_lt w v (λ k. absurd (false≢true (sym (g.level (omega arith)) ∙ f.higher k))) (λ k. omega arith))

-- ---- ranges

module _ (vs : List Sat.Value) (xs : List Float) where
  -- there is nothing to choose in an empty range
  pub leads-nothing : (lo hi : ℕ) → hi ≤ lo → Leads vs xs lo hi 0
  leads-nothing lo hi h = record { own = λ p. absurd (omega arith); all = λ x a b f. absurd (omega arith) }

  -- a range of one variable
  pub leads_assigned : (v : ℕ) → (Free vs v → ⊥) → Leads vs xs v (v + 1) 0
  leads_assigned v n =
      record {
        own = λ p. absurd (omega arith);
        all = λ x a b f. let e : x ≡ v = omega arith in absurd (n (rw e at f));
      }

  pub leads-free : (v : ℕ) → 0 < v → Free vs v → Leads vs xs v (v + 1) v
  leads-free v p f =
      record {
        own = λ q. (omega arith, omega arith, f);
        all = λ x a b g. let e : x ≡ v = omega arith in (p, rw e (ahead_self xs v));
      }

  -- two choices for one range are the same
  pub leads-once : (lo hi v w : ℕ) → Leads vs xs lo hi v → Leads vs xs lo hi w → v ≡ w
  leads-once lo hi v w f g =
      by_lt 0 v
      (λ p. let o = f.own p in
      let a = g.all v o.0 o.1 o.2 in
      let r = g.own a.0 in
      ahead_one xs v w (f.all w r.0 r.1 r.2).1 a.1)
      (λ z. by_lt 0 w
      (λ p. let o = g.own p in absurd (let q = (f.all w o.0 o.1 o.2).0 in omega arith))
      (λ y. omega arith))

  module _ (u : Unsigned xs) (lo mid hi v w : ℕ) (a : lo ≤ mid) (b : mid ≤ hi) (f : Leads vs xs lo mid v) (g : Leads vs xs mid hi w) where
    pub join_left : w ≡ 0 → Leads vs xs lo hi v
    join_left z =
        record {
          own = λ p. let o = f.own p in (o.0, omega (arith, o.1), o.2);
          all = λ x i j k. by_lt x mid (λ l. f.all x i l k) (λ l. absurd (let q = (g.all x l j k).0 in omega arith));
        }

    pub join_right : v ≡ 0 → Leads vs xs lo hi w
    join_right z =
        record {
          own = λ p. let o = g.own p in (omega (arith, o.0), o.1, o.2);
          all = λ x i j k. by_lt x mid (λ l. absurd (let q = (f.all x i l k).0 in omega arith)) (λ l. g.all x l j k);
        }

    module _ (p : 0 < v) (q : 0 < w) where
      apart : v < w
      apart = omega (arith, (f.own p).1, (g.own q).0)

      -- the later one has the higher score
      pub join_higher : lt (score xs v) (score xs w) ≡ true → Leads vs xs lo hi w
      join_higher e =
          let s : Ahead xs w v = record { higher = λ h. e; level = λ h. absurd (omega (arith, apart)) } in
          record {
            own = λ h. let o = g.own q in (omega (arith, o.0), o.1, o.2);
            all = λ x i j k.
                by_lt x mid
                (λ l. (q, ahead_both xs u w v x s (f.all x i l k).1))
                (λ l. g.all x l j k);
          }

      pub join_lower : lt (score xs v) (score xs w) ≡ false → Leads vs xs lo hi v
      join_lower e =
          let s : Ahead xs v w = record { higher = λ h. absurd (omega (arith, apart)); level = λ h. e } in
          record {
            own = λ h. let o = f.own p in (o.0, omega (arith, o.1), o.2);
            all = λ x i j k.
                by_lt x mid
                (λ l. f.all x i l k)
                (λ l. (p, ahead_both xs u v w x s (g.all x l j k).1));
          }

-- the choice of two, for each case of the code
module _ (t : Trail) (w : List ℕ) (s : List Float) (h : t.variables ≤ length s) (u : Unsigned (take t.variables s)) (lo mid hi : ℕ) (a : lo ≤ mid) (b : mid ≤ hi) (c : hi ≤ t.variables) where
  pub join : (v x : ℕ) → LeadsIn t w s lo mid v → LeadsIn t w s mid hi x → LeadsIn t w s lo hi (higher_of s v x)
  unfolding higher_of
  join v zero f g = join_left (assignment_of t w).assignments (take t.variables s) u lo mid hi v 0 a b f g refl
  join zero (suc x) f g = join_right (assignment_of t w).assignments (take t.variables s) u lo mid hi 0 (suc x) a b f g refl
  join (suc v) (suc x) f g =
      let vs = (assignment_of t w).assignments in
      let xs = take t.variables s in
      let i : suc v < t.variables = omega (arith, (f.own (omega arith)).1) in
      let j : suc x < t.variables = omega (arith, (g.own (omega arith)).1) in
      let e : lt (score xs (suc v)) (score xs (suc x)) ≡ lt (get_or s (suc v) nan) (get_or s (suc x) nan) = rw (score-is t.variables s (suc v) h i, score-is t.variables s (suc x) h j) in
      go (lt (get_or s (suc v) nan) (get_or s (suc x) nan)) e
    where
      go : (q : Bool) → lt (score (take t.variables s) (suc v)) (score (take t.variables s) (suc x)) ≡ q → LeadsIn t w s lo hi (cond q (suc x) (suc v))
      go true e = join_higher (assignment_of t w).assignments (take t.variables s) u lo mid hi (suc v) (suc x) a b f g (omega arith) (omega arith) e
      go false e = join_lower (assignment_of t w).assignments (take t.variables s) u lo mid hi (suc v) (suc x) a b f g (omega arith) (omega arith) e

-- ---- the plain choice

choose_next : (v : ℕ) (vs : List Sat.Value) (xs : List Float) (b : Sat.Choice) → v < length vs → v < length xs
    → Sat.choose_from v (drop v vs) (drop v xs) b ≡ Sat.choose_from (v + 1) (drop (v + 1) vs) (drop (v + 1) xs) (Sat.choose_valued v (score xs v) (get_or vs v Sat.Unassigned) b)
unfolding Sat.choose_from
choose_next v vs xs b h k = rw (drop-cons vs v Sat.Unassigned h, drop-cons xs v Sat.score_zero k, add-one)

pub best_some : (xs : List Float) (v : ℕ) → 0 < v → best_of xs v ≡ Sat.chosen v (score xs v)
unfolding best_of
best_some xs zero h = absurd (omega arith)
best_some xs (suc v) h = refl

-- a value is none
abbrev is_free : Sat.Value → Bool
is_free Sat.False = false
is_free Sat.True = false
is_free Sat.Unassigned = true

module _ (vs : List Sat.Value) (xs : List Float) (n : ℕ) (sized : length vs ≡ n) (scored : length xs ≡ n) (u : Unsigned xs) where
  -- the choice over all variables
  abbrev whole : Sat.Choice
  whole = Sat.choose_from 1 (drop 1 vs) (drop 1 xs) Sat.no_choice

  -- the plain choice up to variable v
  record Plain (v : ℕ) : Type 0 where
    best : ℕ
    leads : Leads vs xs 1 v best
    left : Sat.choose_from v (drop v vs) (drop v xs) (best_of xs best) ≡ whole

  plain_start : Plain 1
  unfolding best_of
  plain_start = record { best = 0; leads = leads-nothing vs xs 1 1 (omega arith); left = refl }

  module _ (v : ℕ) (p : 0 < v) (h : v < n) (c : Plain v) where
    -- one variable more
    next : (y : Sat.Value) → get_or vs v Sat.Unassigned ≡ y → Sat.choose_from (v + 1) (drop (v + 1) vs) (drop (v + 1) xs) (Sat.choose_valued v (score xs v) y (best_of xs c.best)) ≡ whole
    next y e = rw (← e) (sym (choose_next v vs xs (best_of xs c.best) (omega (arith, sized)) (omega (arith, scored))) ∙ c.left)

    -- an assigned one is passed over
    passed : (y : Sat.Value) → get_or vs v Sat.Unassigned ≡ y → (y ≡ Sat.Unassigned → ⊥) → Sat.choose_valued v (score xs v) y (best_of xs c.best) ≡ best_of xs c.best → Plain (v + 1)
    passed y e d q =
        record {
          best = c.best;
          leads = join_left vs xs u 1 v (v + 1) c.best 0 (omega arith) (omega arith) c.leads (leads_assigned vs xs v (λ f. d (sym e ∙ f))) refl;
          left = rw q at (next y e);
        }

    -- an unassigned one is compared with the best
    compared : Free vs v → 0 < c.best → (t : Bool) → lt (score xs c.best) (score xs v) ≡ t → Plain (v + 1)
    unfolding Sat.choose_valued Sat.choose_between
    compared f q true e =
        record {
          best = v;
          leads = join_higher vs xs u 1 v (v + 1) c.best v (omega arith) (omega arith) c.leads (leads-free vs xs v p f) q p e;
          left = rw (best_some xs v p) (rw (best_some xs c.best q, e) at (next Sat.Unassigned f));
        }
    compared f q false e =
        record {
          best = c.best;
          leads = join_lower vs xs u 1 v (v + 1) c.best v (omega arith) (omega arith) c.leads (leads-free vs xs v p f) q p e;
          left = rw (best_some xs c.best q) (rw (best_some xs c.best q, e) at (next Sat.Unassigned f));
        }

    first : Free vs v → c.best ≡ 0 → Plain (v + 1)
    unfolding Sat.choose_valued Sat.choose_between best_of
    first f z =
        record {
          best = v;
          leads = join_right vs xs u 1 v (v + 1) c.best v (omega arith) (omega arith) c.leads (leads-free vs xs v p f) z;
          left = rw (best_some xs v p) (rw z at (next Sat.Unassigned f));
        }

    plain_step : Plain (v + 1)
    unfolding Sat.choose_valued
    plain_step = go (get_or vs v Sat.Unassigned) refl
      where
        go : (y : Sat.Value) → get_or vs v Sat.Unassigned ≡ y → Plain (v + 1)
        go Sat.False e = passed Sat.False e (λ d. false≢true (ap is_free d)) refl
        go Sat.True e = passed Sat.True e (λ d. false≢true (ap is_free d)) refl
        go Sat.Unassigned e =
            by_lt 0 c.best (λ q. compared e q (lt (score xs c.best) (score xs v)) refl) (λ z. first e (omega arith))

  plain : (k : ℕ) → suc k ≤ n → Plain (suc k)
  plain zero h = plain_start
  plain (suc k) h = rw (← add-one) (plain_step (suc k) (omega arith) (omega arith) (plain k (omega arith)))

  -- the choice of all ranges together is the plain choice
  pub leads-chosen : 0 < n → (v : ℕ) → Leads vs xs 1 n v → best_of xs v ≡ Sat.choose_from 1 (drop 1 vs) (drop 1 xs) Sat.no_choice
  unfolding Sat.choose_from
  leads-chosen h v f = go n refl
    where
      go : (m : ℕ) → n ≡ m → best_of xs v ≡ whole
      go zero e = absurd (omega arith)
      go (suc k) e =
          let c = plain k (omega arith) in
          let g : Leads vs xs 1 (suc k) v = rw (← e) f in
          let d : c.best ≡ v = leads-once vs xs 1 (suc k) c.best v c.leads g in
          let m : length vs ≤ suc k = omega (arith, sized) in
          ap (λ (w : ℕ). best_of xs w) (sym d) ∙ (rw (drop_of_length-le vs m) at c.left)
