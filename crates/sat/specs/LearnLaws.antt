-- Laws of the learned clause: its literals put into the pool one after another, and the clause that they become. Assumes nothing.
use Rattle.std.proofs.Math.Path.{◌≡◌}
use Rattle.std.specs.Prelude.{refl, true, List, [], ◌∷◌, take, drop, get_or, Float}
use Rattle.std.proofs.Common.{ap, sym, subst, ◌∙◌, add-one, length-take-le}
use Prim.Native.Nat.{ℕ, zero, suc, ◌+◌, ◌-◌, ◌*◌, ◌<◌, ◌≤◌}
use native.Mathlib.Omega.{arith}
use Rattle.std.proofs.Math.ListN.{length, length-drop}
use Rattle.std.proofs.Math.Seq.{take-suc, get_or-drop}
use Rattle.words.specs.Layout.{LENT, SMALL, STARTS, POOL, LEARNED, BLOCKS}
use Rattle.words.specs.Region.{region, length-region}
use Rattle.model.specs.Lists.{snoc}
use Rattle.model.specs.Sat as Sat
use Rattle.laws.specs.Search.State.{Apart}
use Rattle.laws.specs.Search.Sorting.{sort-ascending, ascending-apart}
use Rattle.assignment.specs.State.{Unchanged, column, assignment_of, assignment_regions}
use Rattle.assignment.specs.Blocks.{Unsigned, Cached, Undoes}
use Rattle.assignment.specs.KnownLaws.{cached-kept}
use Rattle.assignment.specs.declared.state.Activity.{Activity}
use Rattle.assignment.specs.Scores.{Others}
use Rattle.assignment.specs.StateLaws.{unchanged_both, unchanged_within, assignment-kept}
use Rattle.assignment.specs.declared.state.Trail.{Trail}
use Rattle.clauses.specs.State.{solver_of, scored, encode_regions, SoundStore, watch_regions, add_regions, pool_literals, Attachable, AllBelow, Pooled, clean, Added, AddedList}
use Rattle.clauses.specs.KeptLaws.{sound-kept, solver_kept}
use Rattle.clauses.specs.PoolLaws.{attachable, added_list}
use Rattle.clauses.specs.declared.state.Store.{Store}
use Rattle.analysis.specs.SortLaws.{part}
use Rattle.analysis.specs.Sorting.{Sorts}
use Rattle.sat.specs.SoundLaws.{Changes, undoes_changes, sound_back, solver_becomes}
use Rattle.sat.specs.declared.state.Learned.{Learned}

-- of `push_learned`
pub record Pushes (m : Store) (t : Trail) (start count : ℕ) (w w' : List ℕ) : Type 0 where
  pub literals : pool_literals m count w' ≡ part count start (region LEARNED w)
  pub frame : Unchanged watch_regions w w'
  pub sound : SoundStore m t w' []
  pub is : (s : Sat.Solver) → solver_of s m t w' ≡ solver_of s m t w

module _ (m : Store) (t : Trail) (start count : ℕ) (w₀ : List ℕ) where
  -- i literals are in the pool
  pub record Pushing (i : ℕ) (w : List ℕ) : Type 0 where
    pub inside : i ≤ count
    pub long : length w ≡ length w₀
    pub done : Pushes m t start i w₀ w

  -- one more word of a part
  part-more : (i s : ℕ) (r : List ℕ) → s + i < length r → snoc (part i s r) (get_or r (s + i) 0) ≡ part (i + 1) s r
  unfolding snoc
  part-more i s r h =
      let k : i < length (drop s r) = simp length-drop (omega arith) in
      rw (add-one, take-suc (drop s r) i 0 k, get_or-drop s r i 0)

  pub pushing_step : (i l : ℕ) (w w' : List ℕ) → start + count ≤ SMALL → Pushing i w → i < count → l ≡ get_or (region LEARNED w) (start + i) 0 → Pooled m t w i l w' → length w' ≡ length w → Pushing (i + 1) w'
  pushing_step i l w w' h g k e p n =
      let d = g.done in
      let r = region LEARNED w₀ in
      let f : l ≡ get_or r (start + i) 0 = e ∙ ap (λ (x : List ℕ). get_or x (start + i) 0) (d.frame.same LEARNED refl) in
      let z : start + i < length r = omega (arith, length-region LEARNED w₀ (omega (arith, g.long, d.sound.formed.ready.words))) in
      record {
        inside = omega arith;
        long = n ∙ g.long;
        done =
            record {
              literals = p.literals ∙ ap (λ (x : List ℕ). snoc x l) d.literals ∙ ap (λ (y : ℕ). snoc (part i start r) y) f ∙ part-more i start r z;
              frame = unchanged_both watch_regions d.frame p.frame;
              sound = p.sound;
              is = λ s. p.is s ∙ d.is s;
            };
      }

  -- what `add_clause` asks
  pub learned-asked : (w : List ℕ) (x : List Float) → Pushes m t start count w₀ w → m.literals + count ≤ POOL → m.clauses + 1 < STARTS → 0 < count → t.variables ≤ length x
      → AllBelow (t.variables * 2) (part count start (region LEARNED w₀)) → Apart (part count start (region LEARNED w₀)) → clean (part count start (region LEARNED w₀)) ≡ true
      → Attachable m t w count × (t.variables ≤ length x) × (clean (pool_literals m count w) ≡ true)
  learned-asked w x p l c n v a d k = (attachable m t w count p.sound c l n (rw p.literals a) (rw p.literals d), v, rw p.literals k)

  -- what it makes
  pub learned_added : (w : List ℕ) (x : List Float) (m' : Store) (w' : List ℕ) (x' : List Float) → Pushes m t start count w₀ w → LENT ≤ length w₀ → start + count ≤ SMALL → Added m t w x count m' w' x'
      → AddedList m t w₀ x (part count start (region LEARNED w₀)) m' w' x'
  learned_added w x m' w' x' p h k a =
      let n : count ≡ length (part count start (region LEARNED w₀)) = sym (length-take-le count (drop start (region LEARNED w₀)) (simp length-drop (omega (arith, length-region LEARNED w₀ (omega arith))))) in
      added_list m t w₀ w x (part count start (region LEARNED w₀)) count m' w' x' p.frame p.is p.literals n a

-- ---- the clause learned

-- the literals of the learned clause
abbrev pub learned_clause : ℕ → ℕ → List ℕ → List ℕ
learned_clause asserting count w = Sat.sort_literals (asserting ∷ column count LEARNED w)

-- what is asked: there is room, and the literals are of distinct variables of the solver
pub record Learnable (m : Store) (t : Trail) (w : List ℕ) (x : List Float) (asserting count : ℕ) : Type 0 where
  pub sound : SoundStore m t w []
  pub scores : t.variables ≤ length x
  pub few : count < SMALL
  pub clauses : m.clauses + 1 < STARTS
  pub literals : m.literals + (count + 1) ≤ POOL
  pub range : AllBelow (t.variables * 2) (learned_clause asserting count w)
  pub distinct : clean (learned_clause asserting count w) ≡ true

-- the regions that learning writes
abbrev pub learn_regions : List ℕ
learn_regions = LEARNED ∷ encode_regions

-- of `learn`
pub record Learns (m : Store) (t : Trail) (w : List ℕ) (x : List Float) (asserting count : ℕ) (r : Learned) (w' : List ℕ) (x' : List Float) : Type 0 where
  pub is : (s : Sat.Solver) → solver_of (scored s t.variables x') r.store r.trail w'
      ≡ Sat.add_sorted
      (Sat.with_assignment (solver_of (scored s t.variables x) m t w)
      (Sat.backtrack (assignment_of t w) (Sat.highest_level (assignment_of t w) (column count LEARNED w))))
      (learned_clause asserting count w)
  pub sound : SoundStore r.store r.trail w' []
  pub variables : r.trail.variables ≡ t.variables
  pub clauses : r.store.clauses ≡ m.clauses + 1
  pub literals : r.store.literals ≡ m.literals + length (learned_clause asserting count w)
  pub others : Others t.variables x x'
  pub frame : Unchanged learn_regions w w'
  pub cached : (a : Activity) → Cached t w a x → Cached r.trail w' a x'

module _ (m : Store) (t : Trail) (w : List ℕ) (x : List Float) (asserting count : ℕ) (able : Learnable m t w x asserting count) (start : ℕ) (w₁ : List ℕ) (o : Sorts count asserting w start w₁) (long : length w₁ ≡ length w) where
  same : assignment_of t w₁ ≡ assignment_of t w
  same = assignment-kept (LEARNED ∷ []) t refl o.frame

  module _ (level : ℕ) (l : level ≡ Sat.highest_level (assignment_of t w) (column count LEARNED w)) (r : Trail) (w₂ : List ℕ) (b : Undoes t w₁ (Sat.backtrack (assignment_of t w₁) level) r w₂) where
    changed : Changes t w₁ (Sat.backtrack (assignment_of t w₁) level) r w₂
    changed = undoes_changes t w₁ (Sat.backtrack (assignment_of t w₁) level) r w₂ b

    sound₂ : SoundStore m r w₂ []
    sound₂ = sound_back m t r w₁ w₂ level (sound-kept (LEARNED ∷ []) refl m t w w₁ o.frame [] long able.sound) changed

    -- the words of the blocks are true once all is sorted and undone
    cached₂ : (a : Activity) → Cached t w a x → Cached r w₂ a x
    cached₂ a k =
        let c = cached-kept (LEARNED ∷ []) t a x refl o.frame k in
        record { known = b.known x c.known; scores = subst (λ (n : ℕ). Unsigned (take n x)) (sym b.variables) c.scores; increment = c.increment }

    clause-is : part (count + 1 - start) start (region LEARNED w₂) ≡ learned_clause asserting count w
    clause-is = ap (λ (u : List ℕ). part (count + 1 - start) start u) (b.frame.same LEARNED refl) ∙ o.is

    -- a clean clause has a literal
    some-literal : (n : ℕ) (u : List ℕ) → clean (take n u) ≡ true → 0 < n
    unfolding clean
    some-literal zero u e = absurd (let z : ◌≡◌ {A = ℕ} 0 1 = cc e in omega arith)
    some-literal (suc n) u e = omega arith

    pub learn-asked : SoundStore m r w₂ [] × (m.literals + (count + 1 - start) ≤ POOL) × (start + (count + 1 - start) ≤ SMALL) × (m.clauses + 1 < STARTS) × (0 < count + 1 - start) × (r.variables ≤ length x)
        × AllBelow (r.variables * 2) (part (count + 1 - start) start (region LEARNED w₂)) × Apart (part (count + 1 - start) start (region LEARNED w₂)) × (clean (part (count + 1 - start) start (region LEARNED w₂)) ≡ true)
    learn-asked =
        let k : clean (part (count + 1 - start) start (region LEARNED w₂)) ≡ true = rw clause-is able.distinct in (
          sound₂,
          omega (arith, able.literals),
          omega (arith, o.high, able.few),
          able.clauses,
          some-literal (count + 1 - start) _ k,
          omega (arith, able.scores, b.variables),
          rw (clause-is, b.variables) able.range,
          rw clause-is (ascending-apart (learned_clause asserting count w) (sort-ascending (asserting ∷ column count LEARNED w))),
          k,
        )

    pub learns : (m' : Store) (w' : List ℕ) (x' : List Float) → AddedList m r w₂ x (part (count + 1 - start) start (region LEARNED w₂)) m' w' x'
        → Learns m t w x asserting count (record { store = m'; trail = r }) w' x'
    learns m' w' x' a =
        record {
          is = λ s.
              let ls = part (count + 1 - start) start (region LEARNED w₂) in
              let S = solver_of (scored s t.variables x) m t w in
              sym (ap (λ (n : ℕ). solver_of (scored s n x') m' r w') b.variables) ∙ a.is s
              ∙ ap (λ (n : ℕ). Sat.add_sorted (solver_of (scored s n x) m r w₂) ls) b.variables
              ∙ ap (λ (z : Sat.Solver). Sat.add_sorted z ls) (solver_becomes (scored s t.variables x) m t r w₁ w₂ (Sat.backtrack (assignment_of t w₁) level) changed)
              ∙ ap (λ (z : Sat.Solver). Sat.add_sorted (Sat.with_assignment z (Sat.backtrack (assignment_of t w₁) level)) ls) (solver_kept (LEARNED ∷ []) refl m t w w₁ o.frame (scored s t.variables x))
              ∙ ap (λ (u : Sat.Assignment). Sat.add_sorted (Sat.with_assignment S (Sat.backtrack u level)) ls) same
              ∙ ap (λ (k : ℕ). Sat.add_sorted (Sat.with_assignment S (Sat.backtrack (assignment_of t w) k)) ls) l
              ∙ ap (λ (k : List ℕ). Sat.add_sorted (Sat.with_assignment S (Sat.backtrack (assignment_of t w) (Sat.highest_level (assignment_of t w) (column count LEARNED w)))) k) clause-is;
          sound = a.sound;
          variables = b.variables;
          clauses = a.clauses;
          literals = rw clause-is at a.literals;
          others = rw b.variables at a.others;
          frame = unchanged_both learn_regions (unchanged_within (LEARNED ∷ []) learn_regions refl o.frame)
              (unchanged_both learn_regions (unchanged_within (BLOCKS ∷ assignment_regions) learn_regions refl b.frame) (unchanged_within add_regions learn_regions refl a.frame));
          cached = λ y k. a.cached y (cached₂ y k);
        }

-- ---- as the definition has it

-- the solver with these scores, and k literals and one more in its total
unfoldable pub counted : Sat.Solver → Sat.Scores → ℕ → Sat.Solver
counted s c k =
    record {
      clauses = s.clauses;
      watches = s.watches;
      assignment = s.assignment;
      scores = c;
      inconsistent = s.inconsistent;
      learned = s.learned + suc k;
    }

-- the definition's `learn` is what `Learns` says of the counted solver
pub learn_of : (s : Sat.Solver) (c : Sat.Scores) (m : Store) (t : Trail) (w : List ℕ) (asserting : ℕ) (others : List ℕ)
    → Sat.learn (solver_of s m t w) c asserting others
    ≡ Sat.add_sorted (Sat.with_assignment (solver_of (counted s c (length others)) m t w) (Sat.backtrack (assignment_of t w) (Sat.highest_level (assignment_of t w) others))) (Sat.sort_literals (asserting ∷ others))
unfolding Sat.learn Sat.add_clause solver_of Sat.with_assignment counted
learn_of s c m t w asserting others = refl
