-- Laws of a literal seen in lent words: marks, whether it is skipped, and what its variable's mark makes of the analysis. Assumes nothing.
use Rattle.std.specs.Prelude.{◌≡◌, Bool, true, false, ℕ, zero, suc, ◌+◌, ◌*◌, ◌<◌, ◌≤◌, max, min, eqb, take, set, get_or, replicate, Float}
use Rattle.std.proofs.Math.Path.{refl}
use Rattle.std.proofs.Common.{ap, sym, ◌∙◌, arith, add-one, length-append, length-take, drop_of_length-le, get_or-take}
use mathlib.Core.List.{List, [], ◌∷◌, map}
use borrow.Author.Tests.{eq-eqb, ne_eqb}
use Rattle.std.proofs.Math.ListN.{length, get_or-map}
use Rattle.std.proofs.Math.Seq.{slice, slice-cons}
use Rattle.facts.specs.Lists.{set_any}
use Rattle.words.specs.Layout.{LENT, SMALL, POOL, LEVELS, SEEN, LEARNED, BLOCKS, LITERALS}
use Rattle.words.specs.Region.{region, stored, stores, stored_in, stored_out, length-region}
use Rattle.model.specs.Literal as Literals
use Rattle.model.specs.Lists as Lists
use Rattle.model.specs.Sat as Sat
use Rattle.assignment.specs.State.{column, assignment_of, Unchanged, TrailReady}
use Rattle.assignment.specs.StateLaws.{take-set, map-set, set-end, unchanged_none, unchanged_both, unchanged_within, unchanged_stored, assignment-kept, level-is}
use Rattle.assignment.specs.ScoreLaws.{others-none, others-both}
use Rattle.assignment.specs.Scores.{Others}
use Rattle.assignment.specs.Blocks.{Cached, Bumps}
use Rattle.assignment.specs.KnownLaws.{cached-kept}
use Rattle.assignment.specs.declared.state.Trail.{Trail}
use Rattle.assignment.specs.declared.state.Activity.{Activity}
use Rattle.analysis.specs.declared.state.Analysis.{Analysis}
use Rattle.analysis.specs.Analysis.{is_stamp, seen_of, Unmarked, analysis_of, analysis_regions, Able, Sees, saw}

-- ---- marks

pub stamp-here : (k x : ℕ) → x ≡ k → is_stamp k x ≡ true
unfolding is_stamp
stamp-here k x e = eq-eqb x k e

pub stamp-not : (k x : ℕ) → (x ≡ k → ⊥) → is_stamp k x ≡ false
unfolding is_stamp
stamp-not k x n = ne_eqb x k n

-- 0 is no stamp
pub stamp-none : (k : ℕ) → 0 < k → is_stamp k 0 ≡ false
stamp-none k h = stamp-not k 0 (λ e. omega arith)

-- the mark of a variable, from its word
pub seen-is : (k : ℕ) (t : Trail) (w : List ℕ) (v : ℕ) → 0 < k → get_or (seen_of k t w) v false ≡ is_stamp k (get_or (column t.variables SEEN w) v 0)
unfolding seen_of
seen-is k t w v h =
    ap (λ (b : Bool). get_or (map (is_stamp k) (column t.variables SEEN w)) v b) (sym (stamp-none k h)) ∙ get_or-map (is_stamp k) (column t.variables SEEN w) v 0

-- the marks after a store
pub mark_is : (k : ℕ) (t : Trail) (w : List ℕ) (v x : ℕ) → seen_of k t (stored SEEN w v x) ≡ set (seen_of k t w) v (is_stamp k x)
unfolding seen_of
mark_is k t w v x = simp (stores, take-set, map-set)

-- no mark is above k after a store of a number that is not
pub unmarked_stored : (k n : ℕ) (w w' : List ℕ) (v x : ℕ) → w' ≡ stored SEEN w v x → x ≤ k → Unmarked k n w → Unmarked k n w'
unmarked_stored k n w w' v x e h m = λ u l. rw (e, stored_in SEEN w v x) (set_any (λ (y : ℕ). y ≤ k) (region SEEN w) v u x 0 (m u l) h)

-- nor where other regions are written
pub unmarked_kept : (k n : ℕ) (w w' : List ℕ) → region SEEN w' ≡ region SEEN w → Unmarked k n w → Unmarked k n w'
unmarked_kept k n w w' e m = λ v h. rw e (m v h)

none-marked : (k : ℕ) (xs : List ℕ) (n : ℕ) → n ≤ length xs → ((v : ℕ) → v < n → get_or xs v 0 < k) → map (is_stamp k) (take n xs) ≡ replicate n false
none-marked k xs zero h f = refl
none-marked k [] (suc n) h f = absurd (omega arith)
none-marked k (x ∷ xs) (suc n) h f = rw (stamp-not k x (λ e. omega (arith, f 0 (omega arith)))) (ap (λ (bs : List Bool). false ∷ bs) (none-marked k xs n (omega arith) (λ v m. f (suc v) (omega arith))))

-- with a stamp above all marks nothing is seen
pub nothing_seen : (stamp k : ℕ) (t : Trail) (w : List ℕ) → TrailReady t w → Unmarked k t.variables w → k < stamp → seen_of stamp t w ≡ replicate t.variables false
unfolding seen_of
nothing_seen stamp k t w r m h =
    none-marked stamp (region SEEN w) t.variables (omega (arith, r.variables, length-region SEEN w (omega (arith, r.words)))) (λ v l. omega (arith, m v l))

-- ---- words of the variables

-- the variable of a literal below twice their number
pub node-below : (l n : ℕ) → l < n * 2 → Literals.node l < n
unfolding Literals.node
node-below l n h = omega arith

-- its place is within a region of the variables
pub variable-low : (t : Trail) (w : List ℕ) (l v : ℕ) → TrailReady t w → l < t.variables * 2 → v ≡ Literals.node l → v < SMALL
variable-low t w l v r h e = omega (arith, e, node-below l t.variables h, r.variables)

-- a word of the first n of a region
pub word_at : (n base : ℕ) (w : List ℕ) (v : ℕ) → v < n → get_or (region base w) v 0 ≡ get_or (column n base w) v 0
word_at n base w v h = sym (get_or-take n (region base w) v 0 h)

-- ---- whether a literal is skipped

-- the level of a variable is its word
pub levels_are : (t : Trail) (w : List ℕ) → (assignment_of t w).levels ≡ column t.variables LEVELS w
unfolding assignment_of
levels_are t w = refl

module _ (stamp : ℕ) (t : Trail) (w : List ℕ) (resolved l v : ℕ) (some : 0 < stamp) (range : l < t.variables * 2) (k : v ≡ Literals.node l) (a : Sat.Analysis) (e : a.seen ≡ seen_of stamp t w) where
  low : v < t.variables
  low = rw k (node-below l t.variables range)

  pub skips_resolved : v ≡ resolved → true ≡ Sat.skipped (assignment_of t w) resolved a l
  unfolding Sat.skipped
  skips_resolved h = rw (← k, eq-eqb v resolved h)

  module _ (n : v ≡ resolved → ⊥) (m : ℕ) (f : m ≡ get_or (region SEEN w) v 0) where
    mark_here : get_or (column t.variables SEEN w) v 0 ≡ m
    mark_here = sym (f ∙ word_at t.variables SEEN w v low)

    pub skips_seen : m ≡ stamp → true ≡ Sat.skipped (assignment_of t w) resolved a l
    unfolding Sat.skipped
    skips_seen h = rw (← k, ne_eqb v resolved n, e, seen-is stamp t w v some, mark_here, stamp-here stamp m h)

    pub skips_level : (m ≡ stamp → ⊥) → (d : ℕ) → d ≡ get_or (region LEVELS w) v 0 → eqb d 0 ≡ Sat.skipped (assignment_of t w) resolved a l
    unfolding Sat.skipped
    skips_level z d g = rw (← k, ne_eqb v resolved n, e, seen-is stamp t w v some, mark_here, stamp-not stamp m z, levels_are t w, ← (g ∙ word_at t.variables LEVELS w v low))

-- ---- a variable seen

seen-kept : (k : ℕ) (t : Trail) (w : List ℕ) (i x : ℕ) → seen_of k t (stored LEARNED w i x) ≡ seen_of k t w
unfolding seen_of
seen-kept k t w i x = simp stores

module _ (t : Trail) (a : Analysis) (l v : ℕ) {w w₀ w₁ : List ℕ} {s s₁ : List Float} {r : Activity} (able : Able t a w s) (range : l < t.variables * 2) (k : v ≡ Literals.node l)
    (b : Bumps t a.activity v w s r w₀ s₁) (e₁ : w₁ ≡ stored SEEN w₀ v a.stamp) (d : ℕ) (f : d ≡ get_or (region LEVELS w₁) v 0) where
  -- the level that was read is the variable's
  level-here : get_or (assignment_of t w).levels (Literals.node l) 0 ≡ d
  level-here = sym (f ∙ word_at t.variables LEVELS w₁ v (rw k (node-below l t.variables range)) ∙ ap (λ (x : List ℕ). get_or (take t.variables x) v 0) (ap (λ (u : List ℕ). region LEVELS u) e₁ ∙ stored_out LEVELS w₀ SEEN v a.stamp refl ∙ b.frame.same LEVELS refl) ∙ ap (λ (x : List ℕ). get_or x v 0) (sym (levels_are t w)) ∙ ap (λ (u : ℕ). get_or (assignment_of t w).levels u 0) k)

  -- a bump leaves the marks
  marks-before : seen_of a.stamp t w₀ ≡ seen_of a.stamp t w
  unfolding seen_of
  marks-before = rw (b.frame.same SEEN refl)

  frame-before : Unchanged analysis_regions w w₀
  frame-before = unchanged_within (BLOCKS ∷ []) analysis_regions refl b.frame

  marked-cached : Cached t w a.activity s → Cached t w₁ r s₁
  marked-cached c = cached-kept (SEEN ∷ []) t r s₁ refl (unchanged_stored (SEEN ∷ []) SEEN _ _ refl (unchanged_none (SEEN ∷ []) w₀) e₁) (b.cached c)

  marks-after : (k : ℕ) → a.stamp ≤ k → Unmarked k t.variables w → Unmarked k t.variables w₁
  marks-after k h m = unmarked_stored k t.variables w₀ w₁ v a.stamp e₁ h (unmarked_kept k t.variables w w₀ (b.frame.same SEEN refl) m)

  pub sees_open : d ≡ t.level → LENT ≤ length w₁
      → Sees 1 t a w s (Sat.see_unless (assignment_of t w) (analysis_of t a w s) l false) (record { activity = r; learned = a.learned; open_at_level = a.open_at_level + 1; stamp = a.stamp }) w₁ s₁
  unfolding analysis_of Sat.see_unless Sat.see_variable
  sees_open h x =
      let lv : Sat.decision_level (assignment_of t w) ≡ t.level = level-is t w able.ready in
      record {
        is = rw (lv, level-here, eq-eqb d t.level h, e₁, mark_is a.stamp t w₀ v a.stamp, stamp-here a.stamp a.stamp refl, marks-before, b.scores.is, k, add-one) (simp (stores, b.frame.same LEARNED refl));
        frame = unchanged_stored analysis_regions SEEN _ _ refl frame-before e₁;
        others = b.scores.others;
        words = x;
        fixed = b.scores.fixed;
        opened = omega arith;
        stamp = refl;
        marks = marks-after;
        cached = marked-cached;
      }

  pub sees_learned : (w₂ : List ℕ) → (d ≡ t.level → ⊥) → w₂ ≡ stored LEARNED w₁ a.learned l → LENT ≤ length w₁ → LENT ≤ length w₂
      → Sees 1 t a w s (Sat.see_unless (assignment_of t w) (analysis_of t a w s) l false) (record { activity = r; learned = a.learned + 1; open_at_level = a.open_at_level; stamp = a.stamp }) w₂ s₁
  unfolding analysis_of Sat.see_unless Sat.see_variable Lists.snoc
  sees_learned w₂ h e₂ y x =
      let q : LEARNED + SMALL ≤ length w = omega (arith, able.ready.words) in
      let lv : Sat.decision_level (assignment_of t w) ≡ t.level = level-is t w able.ready in
      record {
        is = rw (lv, level-here, ne_eqb d t.level h, e₂, seen-kept a.stamp t w₁ a.learned l, e₁, mark_is a.stamp t w₀ v a.stamp, stamp-here a.stamp a.stamp refl, marks-before, b.scores.is, k) (simp (stores, b.frame.same LEARNED refl, take-set, set-end LEARNED w a.learned l able.room q));
        frame = unchanged_stored analysis_regions LEARNED _ _ refl (unchanged_stored analysis_regions SEEN _ _ refl frame-before e₁) e₂;
        others = b.scores.others;
        words = x;
        fixed = b.scores.fixed;
        opened = omega arith;
        stamp = refl;
        marks = λ k h m. unmarked_kept k t.variables w₁ w₂ (ap (λ (u : List ℕ). region SEEN u) e₂ ∙ stored_out SEEN w₁ LEARNED a.learned l refl) (marks-after k h m);
        cached = λ c. cached-kept (LEARNED ∷ []) t r s₁ refl (unchanged_stored (LEARNED ∷ []) LEARNED _ _ refl (unchanged_none (LEARNED ∷ []) w₁) e₂) (marked-cached c);
      }

-- a skipped literal changes nothing
pub sees_not : (t : Trail) (a : Analysis) (w : List ℕ) (s : List Float) (v l : ℕ) → Able t a w s → true ≡ Sat.skipped (assignment_of t w) v (analysis_of t a w s) l
    → Sees 1 t a w s (Sat.see_unless (assignment_of t w) (analysis_of t a w s) l (Sat.skipped (assignment_of t w) v (analysis_of t a w s) l)) a w s
unfolding Sat.see_unless
sees_not t a w s v l able e =
    record {
      is = rw (← e);
      frame = unchanged_none analysis_regions w;
      others = others-none t.variables s;
      words = able.ready.words;
      fixed = able.fixed;
      opened = omega arith;
      stamp = refl;
      marks = λ k h m. m;
      cached = λ c. c;
    }

-- another one is seen
pub sees_it : (t : Trail) (a r : Analysis) (w w' : List ℕ) (s s' : List Float) (v l : ℕ) → false ≡ Sat.skipped (assignment_of t w) v (analysis_of t a w s) l
    → Sees 1 t a w s (Sat.see_unless (assignment_of t w) (analysis_of t a w s) l false) r w' s' → Sees 1 t a w s (saw (assignment_of t w) v (analysis_of t a w s) l) r w' s'
sees_it t a r w w' s s' v l e q = rw e at q

pub seen_of_lem : (t : Trail) (a : Analysis) (w : List ℕ) (s : List Float) → (analysis_of t a w s).seen ≡ seen_of a.stamp t w
unfolding analysis_of
seen_of_lem t a w s = refl

-- ---- the literals of a clause

snoc_longer : (xs : List ℕ) (x : ℕ) → length xs ≤ length (Lists.snoc xs x)
unfolding Lists.snoc
snoc_longer xs x = omega (arith, length-append xs (x ∷ []))

-- what is learned stays learned
variable-grows : (a : Sat.Analysis) (l : ℕ) (b : Bool) → length a.learned ≤ length (Sat.see_variable a l b).learned
unfolding Sat.see_variable
variable-grows a l true = omega arith
variable-grows a l false = snoc_longer a.learned l

unless_grows : (t : Sat.Assignment) (a : Sat.Analysis) (l : ℕ) (b : Bool) → length a.learned ≤ length (Sat.see_unless t a l b).learned
unfolding Sat.see_unless
unless_grows t a l true = omega arith
unless_grows t a l false = variable-grows a l _

pub literals_grow : (t : Sat.Assignment) (v : ℕ) (a : Sat.Analysis) (ls : List ℕ) → length a.learned ≤ length (Sat.see_literals t v a ls).learned
unfolding Sat.see_literals
literals_grow t v a [] = omega arith
literals_grow t v a (l ∷ ls) = omega (arith, unless_grows t a l (Sat.skipped t v a l), literals_grow t v (Sat.see_unless t a l (Sat.skipped t v a l)) ls)

-- how many are learned, of those that the region holds
pub learned-length : (t : Trail) (a : Analysis) (w : List ℕ) (s : List Float) → LENT ≤ length w → length (analysis_of t a w s).learned ≡ min a.learned SMALL
unfolding analysis_of
learned-length t a w s h = length-take a.learned (region LEARNED w) ∙ ap (λ (n : ℕ). min a.learned n) (length-region LEARNED w (omega arith))

pub slice-none : (i end : ℕ) (xs : List ℕ) → end ≤ i → slice i end xs ≡ []
slice-none i end xs h = let k : length (take end xs) ≤ i = simp length-take (omega arith) in drop_of_length-le (take end xs) k

see_next : (t : Sat.Assignment) (v : ℕ) (a : Sat.Analysis) (pool : List ℕ) (i end : ℕ) → i < end → end ≤ length pool
    → Sat.see_literals t v a (slice i end pool) ≡ Sat.see_literals t v (Sat.see_unless t a (get_or pool i 0) (Sat.skipped t v a (get_or pool i 0))) (slice (i + 1) end pool)
unfolding Sat.see_literals
see_next t v a pool i end h k = rw (slice-cons i end pool 0 h k, add-one)

-- what is left of `see_literals` at place i of the pool
pub record Seeing (t : Trail) (v start end : ℕ) (a₀ : Analysis) (w₀ : List ℕ) (s₀ : List Float) (i : ℕ) (a : Analysis) (w : List ℕ) (s : List Float) : Type 0 where
  pub after : start ≤ i
  pub inside : i ≤ max start end
  pub able : Able t a w s
  pub long : length w ≡ length w₀
  pub frame : Unchanged analysis_regions w₀ w
  pub others : Others t.variables s₀ s
  pub opened : a.open_at_level + start ≤ a₀.open_at_level + i
  pub stamp : a.stamp ≡ a₀.stamp
  pub marks : (k : ℕ) → a₀.stamp ≤ k → Unmarked k t.variables w₀ → Unmarked k t.variables w
  pub cached : Cached t w₀ a₀.activity s₀ → Cached t w a.activity s
  pub left : Sat.see_literals (assignment_of t w₀) v (analysis_of t a w s) (slice i end (region LITERALS w₀))
      ≡ Sat.see_literals (assignment_of t w₀) v (analysis_of t a₀ w₀ s₀) (slice start end (region LITERALS w₀))

module _ (t : Trail) (v start end : ℕ) (a₀ : Analysis) (w₀ : List ℕ) (s₀ : List Float)
    (few : a₀.open_at_level + POOL < 1152921504606846976) (h : end ≤ POOL)
    (room : length (Sat.see_literals (assignment_of t w₀) v (analysis_of t a₀ w₀ s₀) (slice start end (region LITERALS w₀))).learned < SMALL) where
  -- the number of learned literals is below that at the end
  room_now : (i : ℕ) (b : Sat.Analysis)
      → Sat.see_literals (assignment_of t w₀) v b (slice i end (region LITERALS w₀)) ≡ Sat.see_literals (assignment_of t w₀) v (analysis_of t a₀ w₀ s₀) (slice start end (region LITERALS w₀)) → length b.learned < SMALL
  room_now i b l =
      omega (arith, literals_grow (assignment_of t w₀) v b (slice i end (region LITERALS w₀)), ap (λ (x : Sat.Analysis). length x.learned) l)

  pub seeing_step : (i l : ℕ) (a r : Analysis) (w w' : List ℕ) (s s' : List Float) → Seeing t v start end a₀ w₀ s₀ i a w s → i < end → l ≡ get_or (region LITERALS w) i 0
      → Sees 1 t a w s (saw (assignment_of t w) v (analysis_of t a w s) l) r w' s' → length w' ≡ length w → Seeing t v start end a₀ w₀ s₀ (i + 1) r w' s'
  seeing_step i l a r w w' s s' g k e q m =
      let pool = region LITERALS w₀ in
      let n : end ≤ length pool = omega (arith, length-region LITERALS w₀ (omega (arith, g.long, g.able.ready.words))) in
      let f : l ≡ get_or pool i 0 = e ∙ ap (λ (x : List ℕ). get_or x i 0) (g.frame.same LITERALS refl) in
      let c : assignment_of t w ≡ assignment_of t w₀ = assignment-kept analysis_regions t refl g.frame in
      let next : Sat.see_literals (assignment_of t w₀) v (analysis_of t r w' s') (slice (i + 1) end pool) ≡ Sat.see_literals (assignment_of t w₀) v (analysis_of t a₀ w₀ s₀) (slice start end pool)
      = rw (q.is, c, f) (sym (see_next (assignment_of t w₀) v (analysis_of t a w s) pool i end k n) ∙ g.left) in
      let y = g.able.ready in
      record {
        after = omega (arith, g.after);
        inside = omega arith;
        able =
            record {
              ready = record { words = q.words; variables = y.variables; literals = y.literals; levels = y.levels };
              scores = omega (arith, g.able.scores, q.others.long);
              fixed = q.fixed;
              room = omega (arith, room_now (i + 1) (analysis_of t r w' s') next, learned-length t r w' s' q.words);
              few = omega (arith, q.opened, g.opened, g.after);
              stamped = omega (arith, g.able.stamped, q.stamp);
            };
        long = m ∙ g.long;
        frame = unchanged_both analysis_regions g.frame q.frame;
        others = others-both t.variables g.others q.others;
        opened = omega (arith, g.opened, q.opened);
        stamp = q.stamp ∙ g.stamp;
        marks = λ k h m. q.marks k (omega (arith, g.stamp)) (g.marks k h m);
        cached = λ c. q.cached (g.cached c);
        left = next;
      }

  pub seeing_end : (i : ℕ) (a : Analysis) (w : List ℕ) (s : List Float) → Seeing t v start end a₀ w₀ s₀ i a w s → end ≤ i
      → Sees POOL t a₀ w₀ s₀ (Sat.see_literals (assignment_of t w₀) v (analysis_of t a₀ w₀ s₀) (slice start end (region LITERALS w₀))) a w s
  unfolding Sat.see_literals
  seeing_end i a w s g k =
      record {
        is = rw (slice-none i end (region LITERALS w₀) k) at g.left;
        frame = g.frame;
        others = g.others;
        words = g.able.ready.words;
        fixed = g.able.fixed;
        opened = omega (arith, g.opened, g.inside);
        stamp = g.stamp;
        marks = g.marks;
        cached = g.cached;
      }
