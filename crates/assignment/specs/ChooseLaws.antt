-- Laws of the choice of a variable in lent words: a variable more, a block, and the blocks in turn. Assumes nothing.
use Rattle.std.specs.Prelude.{◌≡◌, refl, Bool, true, false, cond, List, [], ◌∷◌, ℕ, zero, suc, ◌+◌, ◌-◌, ◌*◌, ◌<◌, ◌≤◌, min, max, length, take, drop, get_or, Float, Some, None}
use Rattle.std.proofs.Math.Path.{sym}
use Rattle.std.proofs.Common.{◌∙◌, arith, length-take-le, get_or-set_same, get_or-set_other}
use Rattle.std.specs.Float.{nan}
use Rattle.std.specs.Float.Ieee.{lt}
use Rattle.facts.specs.Numbers.{by_eq, by_lt}
use Rattle.words.specs.Layout.{LENT, BLOCK, BLOCKS, VALUES}
use Rattle.words.specs.Region.{region, stored, stored_in, length-region}
use Rattle.model.specs.Sat as Sat
use Rattle.assignment.specs.State.{assignment_of, column, Unchanged, TrailReady}
use Rattle.assignment.specs.StateLaws.{variables_are, unchanged_none, unchanged_both, unchanged_stored, assignment-kept}
use Rattle.assignment.specs.Scores.{best_of, choice_of}
use Rattle.assignment.specs.Blocks.{Unsigned, first_of, end_of, Known, KnownIn, LeadsIn, higher_of, Betters, Current, BlockChosen, Chooses}
use Rattle.assignment.specs.BlockLaws.{leads_assigned, leads-free, join, join_left, best_some, leads-chosen}
use Rattle.assignment.specs.KnownLaws.{free_word, assigned_word}
use Rattle.assignment.specs.declared.state.Trail.{Trail}

-- ---- the choice of two

pub higher-none : (s : List Float) (a b : ℕ) → b ≡ 0 → a ≡ higher_of s a b
unfolding higher_of
higher-none s a b z = rw z

pub higher-first : (s : List Float) (a b : ℕ) → a ≡ 0 → b ≡ higher_of s a b
unfolding higher_of
higher-first s a zero z = sym z
higher-first s a (suc b) z = rw z

-- both are variables, and are compared
pub higher_compared : (s : List Float) (a b : ℕ) (q : Bool) → (b ≡ 0 → ⊥) → (a ≡ 0 → ⊥) → lt (get_or s a nan) (get_or s b nan) ≡ q → cond q b a ≡ higher_of s a b
unfolding higher_of
higher_compared s a zero q n m e = absurd (n refl)
higher_compared s zero (suc b) q n m e = absurd (m refl)
higher_compared s (suc a) (suc b) q n m e = rw e

-- ---- one more variable

higher-low : (s : List Float) (a b : ℕ) → a ≤ b → higher_of s a b ≤ b
unfolding higher_of
higher-low s a zero h = h
higher-low s zero (suc b) h = omega arith
higher-low s (suc a) (suc b) h = go (lt (get_or s (suc a) nan) (get_or s (suc b) nan))
  where
    go : (q : Bool) → cond q (suc b) (suc a) ≤ suc b
    go true = omega arith
    go false = h

module _ (t : Trail) (w : List ℕ) (s : List Float) (best v k : ℕ) (e : k ≡ get_or (column t.variables VALUES w) v 0) (h : t.variables ≤ length s) (u : Unsigned (take t.variables s)) (p : 0 < v) (m : v < t.variables) (l : best ≤ v) where
  pub better_not : (k ≡ 0 → ⊥) → Betters t w s best v best
  better_not n =
      record {
        low = l;
        leads = λ lo a f. join_left (assignment_of t w).assignments (take t.variables s) u lo v (v + 1) best 0 a (omega arith) f (leads_assigned _ _ v (assigned_word t w v k e n)) refl;
      }

  pub better_free : (r : ℕ) → k ≡ 0 → r ≡ higher_of s best v → Betters t w s best v r
  better_free r z q =
      record {
        low = rw q (higher-low s best v l);
        leads = λ lo a f. rw q (join t w s h u lo v (v + 1) a (omega arith) (omega arith) best v f (leads-free _ _ v p (free_word t w v k e z)));
      }

-- ---- a block

-- what a scan of block b has found before variable v
pub record Scanning (t : Trail) (w : List ℕ) (s : List Float) (b best v : ℕ) : Type 0 where
  pub low : best < v
  pub first : first_of b ≤ v
  pub high : v ≤ max (end_of t.variables b) (first_of b)
  pub leads : LeadsIn t w s (first_of b) v best

-- what a block's word says is so
pub current-free : (t : Trail) (w : List ℕ) (k x : ℕ) → 0 < k → x ≡ get_or (column t.variables VALUES w) (k - 1) 0 → x ≡ 0 → Current t w k
current-free t w k x n f z = record { some = n; free = λ p. free_word t w (k - 1) x f z }

-- the word of a block, kept
module _ (t : Trail) (w w' : List ℕ) (s : List Float) (b best : ℕ) (r : TrailReady t w) (i : b * BLOCK < t.variables) (e : w' ≡ stored BLOCKS w b (best + 1)) (l : LENT ≤ length w')
    (f : LeadsIn t w s (first_of b) (end_of t.variables b) best) (k : KnownIn t w s) where
  own_word : (c : ℕ) → c ≡ b → get_or (region BLOCKS w') c 0 ≡ best + 1
  own_word c d = rw (d, e, stored_in BLOCKS w b (best + 1)) (get_or-set_same (region BLOCKS w) b (best + 1) 0 (omega (arith, length-region BLOCKS w (omega (arith, r.words)), r.variables)))

  other_word : (c : ℕ) → (c ≡ b → ⊥) → get_or (region BLOCKS w') c 0 ≡ get_or (region BLOCKS w) c 0
  other_word c d = rw (e, stored_in BLOCKS w b (best + 1)) (get_or-set_other (region BLOCKS w) b c (best + 1) 0 d)

  frame : Unchanged (BLOCKS ∷ []) w w'
  frame = unchanged_stored (BLOCKS ∷ []) BLOCKS b (best + 1) refl (unchanged_none (BLOCKS ∷ []) w) e

  same : assignment_of t w' ≡ assignment_of t w
  same = assignment-kept (BLOCKS ∷ []) t refl frame

  known-own : Known t.variables (assignment_of t w).assignments (take t.variables s) (region BLOCKS w')
  known-own =
      record {
        inside = λ c j p. by_eq c b
            (λ q. let z = own_word c q in
            let o = f.own (omega (arith, z)) in
            let y : get_or (region BLOCKS w') c 0 - 1 ≡ best = omega (arith, z) in
            (rw y (omega (arith, q, o.0, o.1)), omega (arith, z, o.1)))
            (λ q. rw (other_word c q) (k.inside c j (rw (other_word c q) at p)));
        leads = λ c j p g. by_eq c b
            (λ q. let z : get_or (region BLOCKS w') c 0 - 1 ≡ best = omega (arith, own_word c q) in rw (z, q) f)
            (λ q. rw (other_word c q) (k.leads c j (rw (other_word c q) at p) (rw (other_word c q) at g)));
      }

  pub chosen_anew : BlockChosen t w s b best w'
  chosen_anew =
      record {
        leads = f;
        frame = frame;
        ready = record { words = l; variables = r.variables; literals = r.literals; levels = r.levels };
        known = rw same known-own;
      }

-- ---- all blocks

-- what the blocks before b give
pub record Choosing (t : Trail) (w₀ : List ℕ) (s : List Float) (b best : ℕ) (w : List ℕ) : Type 0 where
  pub long : length w ≡ length w₀
  pub low : best < t.variables
  pub few : b * BLOCK < t.variables + BLOCK
  pub leads : LeadsIn t w₀ s 1 (max 1 (min t.variables (b * BLOCK))) best
  pub frame : Unchanged (BLOCKS ∷ []) w₀ w
  pub ready : TrailReady t w
  pub known : KnownIn t w s

module _ (t : Trail) (w₀ w w' : List ℕ) (s : List Float) (b best c r : ℕ) (h : t.variables ≤ length s) (u : Unsigned (take t.variables s)) (i : b * BLOCK < t.variables) where
  same_choice : Choosing t w₀ s b best w → BlockChosen t w s b c w' → LeadsIn t w₀ s (first_of b) (end_of t.variables b) c
  same_choice o g = rw (assignment-kept (BLOCKS ∷ []) t refl o.frame) at g.leads

  pub choosing_step : Choosing t w₀ s b best w → BlockChosen t w s b c w' → length w' ≡ length w → r ≡ higher_of s best c → Choosing t w₀ s (b + 1) r w'
  choosing_step o g l e =
      let m : max 1 (min t.variables (b * BLOCK)) ≡ first_of b = omega arith in
      let n : max 1 (min t.variables ((b + 1) * BLOCK)) ≡ end_of t.variables b = omega arith in
      let before : LeadsIn t w₀ s 1 (first_of b) best = rw m at o.leads in
      let f : LeadsIn t w₀ s 1 (end_of t.variables b) (higher_of s best c) =
      join t w₀ s h u 1 (first_of b) (end_of t.variables b) (omega arith) (omega arith) (omega arith) best c before (same_choice o g) in
      record {
        long = l ∙ o.long;
        low = by_lt 0 r (λ p. omega (arith, ((rw (← e) at f).own p).1)) (λ p. omega arith);
        few = omega (arith, o.few);
        leads = rw (n, e) f;
        frame = unchanged_both (BLOCKS ∷ []) o.frame g.frame;
        ready = g.ready;
        known = g.known;
      }

-- at the end the best is the choice
module _ (t : Trail) (w₀ w : List ℕ) (s : List Float) (b best : ℕ) (y : TrailReady t w₀) (h : t.variables ≤ length s) (u : Unsigned (take t.variables s)) (o : Choosing t w₀ s b best w) (i : t.variables ≤ b * BLOCK) where
  chosen_is : best_of (take t.variables s) best ≡ Sat.choose_from 1 (drop 1 (assignment_of t w₀).assignments) (drop 1 (take t.variables s)) Sat.no_choice
  chosen_is =
      let p : 0 < t.variables = omega (arith, o.low) in
      let m : max 1 (min t.variables (b * BLOCK)) ≡ t.variables = omega arith in
      leads-chosen (assignment_of t w₀).assignments (take t.variables s) t.variables (variables_are t w₀ y) (length-take-le t.variables s h) u p best (rw m at o.leads)

  pub chooses_none : best ≡ 0 → Chooses t w₀ s None w
  unfolding choice_of best_of
  chooses_none z = record { is = rw z at chosen_is; below = tt; frame = o.frame; ready = o.ready; known = o.known }

  pub chooses_one : (best ≡ 0 → ⊥) → Chooses t w₀ s (Some best) w
  unfolding choice_of
  chooses_one n =
      record { is = sym (best_some (take t.variables s) best (omega arith)) ∙ chosen_is; below = o.low; frame = o.frame; ready = o.ready; known = o.known }
