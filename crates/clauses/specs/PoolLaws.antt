-- Literals put into the pool after those of the clauses, and the clauses made of them. Assumes nothing.
use Rattle.std.specs.Prelude.{◌≡◌, true, ℕ, zero, suc, ◌+◌, ◌-◌, ◌*◌, ◌<◌, ◌≤◌, Float, get_or, length, take}
use Rattle.std.proofs.Math.Path.{refl, sym}
use Rattle.std.proofs.Common.{◌∙◌, add-one, take-suc-set, get_or-set_other, length-take-le}
use mathlib.Core.List.{List, [], ◌∷◌}
use native.Mathlib.Omega.{arith}
use Rattle.std.proofs.Math.Seq.{slice_empty, length-slice, take-set-le, take-suc, take-length}
use Rattle.std.proofs.lemmas.List.{drop-append-le}
use Rattle.words.specs.Layout.{LENT, STARTS, POOL, CLAUSE-STARTS, WATCHED, LITERALS}
use Rattle.words.specs.Region.{region, stored, stores, stored_in, stored_out, length-stored, length-region}
use Rattle.model.specs.Lists.{snoc, member}
use Rattle.model.specs.Literal as Literals
use Rattle.model.specs.Sat.{Solver}
use Rattle.laws.specs.Search.State.{Apart}
use Rattle.laws.specs.Search.Sorting.{ascending-apart}
use Rattle.assignment.specs.State.{Unchanged}
use Rattle.assignment.specs.StateLaws.{unchanged_none, unchanged_both, unchanged_stored, unchanged_within}
use Rattle.assignment.specs.KnownLaws.{cached-kept}
use Rattle.assignment.specs.declared.state.Trail.{Trail}
use Rattle.clauses.specs.declared.state.Store.{Store}
use Rattle.clauses.specs.Tabulate.{tabulate-same}
use Rattle.clauses.specs.Queue.{queues_of}
use Rattle.clauses.specs.Clauses.{clause_at, literals_of, clauses_of, same-watches}
use Rattle.clauses.specs.State.{solver_of, SoundStore, watch_regions, add_regions, pool_literals, Attachable, AllBelow, Pooled, scored, clean, Added, AddedList, Room, Sorted}
use Rattle.clauses.specs.StepLaws.{same-assignment}
use Rattle.clauses.specs.EncodeLaws.{clean-one, clean-two, clean-three}
use Rattle.clauses.specs.ClauseLaws.{slice_in}

-- ---- one literal

module _ (m : Store) (t : Trail) (w : List ℕ) (s : SoundStore m t w []) (i v : ℕ) (h : m.literals ≤ i) where
  pool_unchanged : Unchanged watch_regions w (stored LITERALS w i v)
  unfolding member
  pool_unchanged = unchanged_stored watch_regions LITERALS i v refl (unchanged_none watch_regions w) refl

  pool_queues : queues_of t.variables (stored LITERALS w i v) ≡ queues_of t.variables w
  unfolding queues_of
  pool_queues = simp stores

  pool_literals_lem : (k : ℕ) → k < m.clauses → literals_of (stored LITERALS w i v) k ≡ literals_of w k
  unfolding literals_of
  pool_literals_lem k b =
      rw (
        stored_out CLAUSE-STARTS w LITERALS i v refl,
        stored_in LITERALS w i v,
        take-set-le (get_or (region CLAUSE-STARTS w) (k + 1) 0) (region LITERALS w) i v (omega (arith, s.formed.within (k + 1) (omega arith))),
      )

  pool_clause : (k : ℕ) → k < m.clauses → clause_at (stored LITERALS w i v) k ≡ clause_at w k
  unfolding clause_at
  pool_clause k b = rw (stored_out WATCHED w LITERALS i v refl, pool_literals_lem k b)

  pool_clauses : clauses_of m.clauses (stored LITERALS w i v) ≡ clauses_of m.clauses w
  unfolding clauses_of
  pool_clauses = tabulate-same m.clauses (clause_at (stored LITERALS w i v)) (clause_at w) pool_clause

  pub pool_sound : SoundStore m t (stored LITERALS w i v) []
  pool_sound = record {
    formed = record {
      ready = record { words = rw (length-stored LITERALS w i v) s.formed.ready.words; variables = s.formed.ready.variables; literals = s.formed.ready.literals; levels = s.formed.ready.levels };
      some = s.formed.some;
      clauses = s.formed.clauses;
      literals = s.formed.literals;
      last = rw (stored_out CLAUSE-STARTS w LITERALS i v refl) s.formed.last;
      within = rw (stored_out CLAUSE-STARTS w LITERALS i v refl) s.formed.within;
      range = λ k b. rw (stored_in LITERALS w i v, get_or-set_other (region LITERALS w) i k v 0 (λ z. omega arith)) (s.formed.range k b);
      watching = record {
        apart = λ k b. rw (pool_literals_lem k b) (s.formed.watching.apart k b);
        first = λ k b. rw (pool_literals_lem k b, stored_out WATCHED w LITERALS i v refl) (s.formed.watching.first k b);
        second = λ k b. rw (pool_literals_lem k b, stored_out WATCHED w LITERALS i v refl) (s.formed.watching.second k b);
      };
      room = rw (same-assignment t w _ pool_unchanged) s.formed.room;
    };
    queues = rw pool_queues s.queues;
  }

  pub pool_solver : (q : Solver) → solver_of q m t (stored LITERALS w i v) ≡ solver_of q m t w
  unfolding solver_of
  pool_solver q = rw (pool_clauses, same-watches t.variables _ w pool_queues, same-assignment t w _ pool_unchanged)

-- one more of the pool's literals
pool_more : (m : Store) (w : List ℕ) (count v : ℕ) → LENT ≤ length w → m.literals + count < POOL
    → pool_literals m (count + 1) (stored LITERALS w (m.literals + count) v) ≡ snoc (pool_literals m count w) v
unfolding snoc
pool_more m w count v h k =
    let n : m.literals + count < length (region LITERALS w) = omega (arith, length-region LITERALS w (omega arith)) in
    let e : m.literals + (count + 1) ≡ suc (m.literals + count) = omega arith in
    let b : m.literals ≤ length (take (m.literals + count) (region LITERALS w)) = rw (length-take-le (m.literals + count) (region LITERALS w) (omega arith)) (omega arith) in
    rw (
      stored_in LITERALS w (m.literals + count) v,
      e,
      take-suc-set (region LITERALS w) (m.literals + count) v n,
      drop-append-le m.literals (take (m.literals + count) (region LITERALS w)) (v ∷ []) b,
    )

pub pooled : (m : Store) (t : Trail) (w : List ℕ) (count v : ℕ) → SoundStore m t w [] → m.literals + count < POOL → (u : List ℕ) → u ≡ stored LITERALS w (m.literals + count) v → Pooled m t w count v u
pooled m t w count v s k u e = record {
  frame = rw e (pool_unchanged m t w s (m.literals + count) v (omega arith));
  sound = rw e (pool_sound m t w s (m.literals + count) v (omega arith));
  is = λ q. rw e (pool_solver m t w s (m.literals + count) v (omega arith) q);
  literals = rw e (pool_more m w count v s.formed.ready.words k);
}

-- no literal
pub pool_none : (m : Store) (w : List ℕ) → pool_literals m 0 w ≡ []
pool_none m w = let e : m.literals + 0 ≡ m.literals = omega arith in rw e (slice_empty m.literals (region LITERALS w))

-- ---- several

all-at : (b : ℕ) (xs : List ℕ) → AllBelow b xs → (i : ℕ) → i < length xs → get_or xs i 0 < b
all-at b [] a i h = absurd (omega arith)
all-at b (x ∷ xs) a zero h = a.0
all-at b (x ∷ xs) a (suc i) h = all-at b xs a.1 i (omega arith)

-- distinct literals of the variables can become a clause
pub attachable : (m : Store) (t : Trail) (w : List ℕ) (count : ℕ) → SoundStore m t w [] → m.clauses + 1 < STARTS → m.literals + count ≤ POOL → 0 < count
    → AllBelow (t.variables * 2) (pool_literals m count w) → Apart (pool_literals m count w) → Attachable m t w count
attachable m t w count s c l p a d = record { sound = s; clauses = c; literals = l; some = p; range = range; apart = d }
  where
    range : (i : ℕ) → m.literals ≤ i → i < m.literals + count → get_or (region LITERALS w) i 0 < t.variables * 2
    range i h k =
        let e : m.literals + (i - m.literals) ≡ i = omega arith in
        let n : length (pool_literals m count w) ≡ m.literals + count - m.literals = length-slice m.literals (m.literals + count) (region LITERALS w) (omega (arith, length-region LITERALS w (omega (arith, s.formed.ready.words)))) in
        rw e at (rw (slice_in m.literals (m.literals + count) (i - m.literals) (region LITERALS w) (omega arith)) at (all-at (t.variables * 2) (pool_literals m count w) a (i - m.literals) (omega arith)))

-- a clause of literals that were put into the pool
pub added_list : (m : Store) (t : Trail) (w u : List ℕ) (x : List Float) (ls : List ℕ) (count : ℕ) (m' : Store) (w' : List ℕ) (x' : List Float)
    → Unchanged watch_regions w u → ((s : Solver) → solver_of s m t u ≡ solver_of s m t w) → pool_literals m count u ≡ ls → count ≡ length ls
    → Added m t u x count m' w' x' → AddedList m t w x ls m' w' x'
added_list m t w u x ls count m' w' x' f k l n a = record {
  frame = unchanged_both add_regions (unchanged_within watch_regions add_regions refl f) a.frame;
  sound = a.sound;
  clauses = a.clauses;
  literals = rw n at a.literals;
  others = a.others;
  is = λ s. rw (l, k (scored s t.variables x)) at (a.is s);
  cached = λ b c. a.cached b (cached-kept watch_regions t b x refl f c);
}

-- sorted literals, from their variables in ascending order
pub sorted-one : (v a : ℕ) → a < v → Sorted v (a ∷ [])
sorted-one v a h = record { some = omega arith; below = (h, tt); ascending = (tt, tt); clean = clean-one a }

pub sorted-two : (v a b : ℕ) → Literals.node a < Literals.node b → b < v → Sorted v (a ∷ b ∷ [])
unfolding Literals.node
sorted-two v a b h k = record { some = omega arith; below = (omega arith, (k, tt)); ascending = ((omega arith, tt), (tt, tt)); clean = clean-two a b h }

pub sorted-three : (v a b c : ℕ) → Literals.node a < Literals.node b → Literals.node b < Literals.node c → c < v → Sorted v (a ∷ b ∷ c ∷ [])
unfolding Literals.node
sorted-three v a b c h i k = record {
  some = omega arith;
  below = (omega arith, (omega arith, (k, tt)));
  ascending = ((omega arith, (omega arith, tt)), ((omega arith, tt), (tt, tt)));
  clean = clean-three a b c h i;
}

-- ---- literals put into the pool one after another, and the clause that they become

module _ (m : Store) (t : Trail) (w₀ : List ℕ) (ls : List ℕ) where
  -- the first i are in the pool
  pub record Pooling (i : ℕ) (w : List ℕ) : Type 0 where
    pub inside : i ≤ length ls
    pub long : length w ≡ length w₀
    pub literals : pool_literals m i w ≡ take i ls
    pub frame : Unchanged watch_regions w₀ w
    pub sound : SoundStore m t w []
    pub is : (s : Solver) → solver_of s m t w ≡ solver_of s m t w₀

  pub pooling_step : (i l : ℕ) (w w' : List ℕ) → Pooling i w → i < length ls → l ≡ get_or ls i 0 → Pooled m t w i l w' → length w' ≡ length w → Pooling (i + 1) w'
  unfolding snoc
  pooling_step i l w w' g k e p n = record {
    inside = omega arith;
    long = n ∙ g.long;
    literals = p.literals ∙ rw (g.literals, e, add-one) (sym (take-suc ls i 0 k));
    frame = unchanged_both watch_regions g.frame p.frame;
    sound = p.sound;
    is = λ s. p.is s ∙ g.is s;
  }

  module _ (w : List ℕ) (x : List Float) (g : Pooling (length ls) w) where
    all_pooled : pool_literals m (length ls) w ≡ ls
    all_pooled = g.literals ∙ take-length ls

    -- what `add_clause` asks
    pub pooled_asked : Room m t w₀ x (length ls) → Sorted (t.variables * 2) ls → Attachable m t w (length ls) × (t.variables ≤ length x) × (clean (pool_literals m (length ls) w) ≡ true)
    pooled_asked r s = (
      attachable m t w (length ls) g.sound r.clauses r.literals s.some (rw all_pooled s.below) (rw all_pooled (ascending-apart ls s.ascending)),
      r.scores,
      rw all_pooled s.clean,
    )

    -- what it makes
    pub pooled_added : (m' : Store) (w' : List ℕ) (x' : List Float) → Added m t w x (length ls) m' w' x' → AddedList m t w₀ x ls m' w' x'
    pooled_added m' w' x' a = added_list m t w₀ w x ls (length ls) m' w' x' g.frame g.is all_pooled refl a
