-- What a clause added makes of the solver that the words stand for. Assumes nothing.
use Rattle.std.specs.Prelude.{◌≡◌, true, ℕ, suc, ◌+◌, ◌-◌, ◌*◌, ◌/◌, ◌<◌, ◌≤◌, Float, set, get_or}
use Rattle.std.proofs.Math.Path.{refl, ap}
use Rattle.std.proofs.Common.{sym, ◌∙◌, ⊎_elim, arith, eq-eqb, ne_eqb, length-set}
use mathlib.Core.List.{List, [], ◌∷◌}
use Rattle.std.proofs.Math.Numerals.{add-one}
use Rattle.std.proofs.lemmas.Bool.{not-true}
use Rattle.std.proofs.Math.ListN.{length}
use Rattle.std.proofs.Math.Seq.{slice, slice-cons, slice_empty, length-slice, get_or-set_same, get_or-set_other}
use Rattle.facts.specs.Numbers.{below}
use Rattle.words.specs.Layout.{LENT, STARTS, POOL, BLOCKS, CLAUSE-STARTS, WATCHED, LITERALS}
use Rattle.words.specs.Region.{region, stores, length-stored, length-region}
use Rattle.model.specs.Lists.{snoc, member}
use Rattle.model.specs.Sat as Sat
use Rattle.model.specs.Sat.{Solver}
use Rattle.laws.specs.Search.State.{Apart}
use Rattle.assignment.specs.State.{assignment_of, Unchanged}
use Rattle.assignment.specs.Blocks.{AddsOnes}
use Rattle.assignment.specs.KnownLaws.{cached-kept}
use Rattle.assignment.specs.StateLaws.{unchanged_none, unchanged_both, unchanged_within, unchanged_stored}
use Rattle.assignment.specs.declared.state.Trail.{Trail}
use Rattle.clauses.specs.declared.state.Store.{Store}
use Rattle.clauses.specs.Tabulate.{tabulate-same, tabulate-suc}
use Rattle.clauses.specs.Queue.{HasRoom, queues_of, pushed_words}
use Rattle.clauses.specs.Sound.{fresh-sound, drop-sound}
use Rattle.clauses.specs.Clauses.{clause_at, literals_of, place_in, Stands, stands_at, clauses_of, watches_of, same-watches, length-clauses, queue-fits}
use Rattle.clauses.specs.ClauseLaws.{slice_in}
use Rattle.clauses.specs.KeptLaws.{solver_kept, pool_kept}
use Rattle.clauses.specs.State.{solver_of, Formed, SoundStore, watch_regions, add_regions, sealed_words, pool_literals, Attachable, attached_to, Attached, scored, clean, Added}
use Rattle.clauses.specs.StepLaws.{same-assignment, pushed_unchanged, push_step, push_solver}

-- ---- a clause sealed

module _ (w : List ℕ) (id end a b : ℕ) where
  pub sealed_unchanged : Unchanged watch_regions w (sealed_words w id end a b)
  unfolding sealed_words member
  sealed_unchanged =
      unchanged_stored watch_regions WATCHED (id * 2 + 1) b refl
      (unchanged_stored watch_regions WATCHED (id * 2) a refl (unchanged_stored watch_regions CLAUSE-STARTS (id + 1) end refl (unchanged_none watch_regions w) refl) refl) refl

  sealed_queues : (n : ℕ) → queues_of n (sealed_words w id end a b) ≡ queues_of n w
  unfolding sealed_words queues_of
  sealed_queues n = simp stores

  sealed_starts : region CLAUSE-STARTS (sealed_words w id end a b) ≡ set (region CLAUSE-STARTS w) (id + 1) end
  unfolding sealed_words
  sealed_starts = simp stores

  sealed_watched : region WATCHED (sealed_words w id end a b) ≡ set (set (region WATCHED w) (id * 2) a) (id * 2 + 1) b
  unfolding sealed_words
  sealed_watched = simp stores

  sealed_pool : region LITERALS (sealed_words w id end a b) ≡ region LITERALS w
  unfolding sealed_words
  sealed_pool = simp stores

  sealed_length : length (sealed_words w id end a b) ≡ length w
  unfolding sealed_words
  sealed_length = simp length-stored

  -- the clauses before it
  module _ (i : ℕ) (h : i < id) where
    literals-before : literals_of (sealed_words w id end a b) i ≡ literals_of w i
    unfolding literals_of
    literals-before =
        rw (
          sealed_starts,
          sealed_pool,
          get_or-set_other (region CLAUSE-STARTS w) (id + 1) i end 0 (λ z. omega arith),
          get_or-set_other (region CLAUSE-STARTS w) (id + 1) (i + 1) end 0 (λ z. omega arith),
        )

    first-before : get_or (region WATCHED (sealed_words w id end a b)) (i * 2) 0 ≡ get_or (region WATCHED w) (i * 2) 0
    first-before = rw (sealed_watched, get_or-set_other (set (region WATCHED w) (id * 2) a) (id * 2 + 1) (i * 2) b 0 (λ z. omega arith), get_or-set_other (region WATCHED w) (id * 2) (i * 2) a 0 (λ z. omega arith))

    second-before : get_or (region WATCHED (sealed_words w id end a b)) (i * 2 + 1) 0 ≡ get_or (region WATCHED w) (i * 2 + 1) 0
    second-before = rw (sealed_watched, get_or-set_other (set (region WATCHED w) (id * 2) a) (id * 2 + 1) (i * 2 + 1) b 0 (λ z. omega arith), get_or-set_other (region WATCHED w) (id * 2) (i * 2 + 1) a 0 (λ z. omega arith))

    sealed_before : clause_at (sealed_words w id end a b) i ≡ clause_at w i
    unfolding clause_at
    sealed_before = rw (literals-before, first-before, second-before)

  -- and the clause itself
  module _ (n : LENT ≤ length w) (h : id + 1 < STARTS) where
    literals-here : literals_of (sealed_words w id end a b) id ≡ slice (get_or (region CLAUSE-STARTS w) id 0) end (region LITERALS w)
    unfolding literals_of
    literals-here =
        let r : id + 1 < length (region CLAUSE-STARTS w) = omega (arith, length-region CLAUSE-STARTS w (omega arith)) in
        rw (sealed_starts, sealed_pool, get_or-set_same (region CLAUSE-STARTS w) (id + 1) end 0 r, get_or-set_other (region CLAUSE-STARTS w) (id + 1) id end 0 (λ z. omega arith))

    first-here : get_or (region WATCHED (sealed_words w id end a b)) (id * 2) 0 ≡ a
    first-here =
        let r : id * 2 < length (region WATCHED w) = omega (arith, length-region WATCHED w (omega arith)) in
        rw (sealed_watched, get_or-set_other (set (region WATCHED w) (id * 2) a) (id * 2 + 1) (id * 2) b 0 (λ z. omega arith), get_or-set_same (region WATCHED w) (id * 2) a 0 r)

    second-here : get_or (region WATCHED (sealed_words w id end a b)) (id * 2 + 1) 0 ≡ b
    second-here =
        let r : id * 2 + 1 < length (set (region WATCHED w) (id * 2) a) = rw (length-set (region WATCHED w) (id * 2) a) (omega (arith, length-region WATCHED w (omega arith))) in
        rw (sealed_watched, get_or-set_same (set (region WATCHED w) (id * 2) a) (id * 2 + 1) b 0 r)

    -- one clause more
    pub sealed_clauses : (ls : List ℕ) → slice (get_or (region CLAUSE-STARTS w) id 0) end (region LITERALS w) ≡ ls
        → clauses_of (id + 1) (sealed_words w id end a b) ≡ snoc (clauses_of id w) (record { literals = ls; watched = (place_in a ls, place_in b ls) })
    unfolding clauses_of snoc clause_at
    sealed_clauses ls e =
        rw (
          add-one,
          tabulate-suc id (clause_at (sealed_words w id end a b)),
          tabulate-same id (clause_at (sealed_words w id end a b)) (clause_at w) (λ i k. sealed_before i k),
          first-here,
          second-here,
          literals-here,
          e,
        )

-- the counts with a clause of `count` literals more
abbrev pub grown : Store → ℕ → Store
grown m count = record { clauses = m.clauses + 1; literals = m.literals + count }

module _ (m : Store) (t : Trail) (w : List ℕ) (count p q : ℕ) (a : Attachable m t w count) (sp : Stands p (pool_literals m count w)) (sq : Stands q (pool_literals m count w)) where
  fits : LENT ≤ length w
  fits = a.sound.formed.ready.words

  sealed_formed : Formed (grown m count) t (sealed_words w m.clauses (m.literals + count) p q)
  sealed_formed = record {
    ready = record { words = rw (sealed_length w m.clauses (m.literals + count) p q) fits; variables = a.sound.formed.ready.variables; literals = a.sound.formed.ready.literals; levels = a.sound.formed.ready.levels };
    some = a.sound.formed.some;
    clauses = a.clauses;
    literals = a.literals;
    last = rw (sealed_starts w m.clauses (m.literals + count) p q)
        (get_or-set_same (region CLAUSE-STARTS w) (m.clauses + 1) (m.literals + count) 0 (omega (arith, length-region CLAUSE-STARTS w (omega (arith, fits)), a.clauses)));
    within = λ i h. rw (sealed_starts w m.clauses (m.literals + count) p q) (starts i h);
    range = λ i h. rw (sealed_pool w m.clauses (m.literals + count) p q) (pool i h);
    watching = record { apart = λ i h. (watched i h).0; first = λ i h. (watched i h).1; second = λ i h. (watched i h).2 };
    room = rw (same-assignment t w _ (sealed_unchanged w m.clauses (m.literals + count) p q)) a.sound.formed.room;
  }
    where
      starts : (i : ℕ) → i ≤ m.clauses + 1 → get_or (set (region CLAUSE-STARTS w) (m.clauses + 1) (m.literals + count)) i 0 ≤ m.literals + count
      starts i h = ⊎_elim
          (λ (k : i < m.clauses + 1). rw (get_or-set_other (region CLAUSE-STARTS w) (m.clauses + 1) i (m.literals + count) 0 (λ z. omega arith)) (omega (arith, a.sound.formed.within i (omega arith))))
          (λ (k : m.clauses + 1 ≤ i). let e : i ≡ m.clauses + 1 = omega arith in
          rw (e, get_or-set_same (region CLAUSE-STARTS w) (m.clauses + 1) (m.literals + count) 0 (omega (arith, length-region CLAUSE-STARTS w (omega (arith, fits)), a.clauses))) (omega arith))
          (below i (m.clauses + 1))

      u : List ℕ
      u = sealed_words w m.clauses (m.literals + count) p q

      -- the literals of the clause that is sealed are those of the pool
      own : literals_of u m.clauses ≡ pool_literals m count w
      own = literals-here w m.clauses (m.literals + count) p q fits a.clauses ∙ ap (λ (x : ℕ). slice x (m.literals + count) (region LITERALS w)) a.sound.formed.last

      watched : (i : ℕ) → i < m.clauses + 1 → Apart (literals_of u i) × Stands (get_or (region WATCHED u) (i * 2) 0) (literals_of u i) × Stands (get_or (region WATCHED u) (i * 2 + 1) 0) (literals_of u i)
      watched i h = ⊎_elim
          (λ (k : i < m.clauses). rw (literals-before w m.clauses (m.literals + count) p q i k, first-before w m.clauses (m.literals + count) p q i k, second-before w m.clauses (m.literals + count) p q i k)
          (a.sound.formed.watching.apart i k, a.sound.formed.watching.first i k, a.sound.formed.watching.second i k))
          (λ (k : m.clauses ≤ i). let e : i ≡ m.clauses = omega arith in
          rw (e, own, first-here w m.clauses (m.literals + count) p q fits a.clauses, second-here w m.clauses (m.literals + count) p q fits a.clauses) (a.apart, sp, sq))
          (below i m.clauses)

      pool : (i : ℕ) → i < m.literals + count → get_or (region LITERALS w) i 0 < t.variables * 2
      pool i h = ⊎_elim (λ (k : i < m.literals). a.sound.formed.range i k) (λ (k : m.literals ≤ i). a.range i k h) (below i m.literals)

  -- all is sound, with the two cells of the new clause pending
  pub sealed_sound : SoundStore (grown m count) t (sealed_words w m.clauses (m.literals + count) p q) (m.clauses * 2 ∷ (m.clauses * 2 + 1) ∷ [])
  sealed_sound = record {
    formed = sealed_formed;
    queues = let e : (m.clauses + 1) * 2 ≡ m.clauses * 2 + 2 = omega arith in
        rw (sealed_queues w m.clauses (m.literals + count) p q t.variables, e) (fresh-sound (queues_of t.variables w) (m.clauses * 2) a.sound.queues);
  }

  pub sealed_solver : (s : Solver) → solver_of s (grown m count) t (sealed_words w m.clauses (m.literals + count) p q)
      ≡ record {
        clauses = snoc (clauses_of m.clauses w) (record { literals = pool_literals m count w; watched = (place_in p (pool_literals m count w), place_in q (pool_literals m count w)) });
        watches = watches_of t.variables w;
        assignment = assignment_of t w;
        scores = s.scores;
        inconsistent = s.inconsistent;
        learned = s.learned;
      }
  unfolding solver_of
  sealed_solver s =
      rw (
        sealed_clauses w m.clauses (m.literals + count) p q fits a.clauses (pool_literals m count w) (ap (λ (x : ℕ). slice x (m.literals + count) (region LITERALS w)) a.sound.formed.last),
        same-watches t.variables _ w (sealed_queues w m.clauses (m.literals + count) p q t.variables),
        same-assignment t w _ (sealed_unchanged w m.clauses (m.literals + count) p q),
      )

  -- a queue has room for one cell more
  sealed_room : (l : ℕ) → l < t.variables * 2 → HasRoom (sealed_words w m.clauses (m.literals + count) p q) l
  sealed_room l b = queue-fits t.variables _ sealed_formed.ready.words sealed_formed.ready.variables ((m.clauses + 1) * 2) (omega (arith, a.clauses)) _ sealed_sound.queues l b

  -- the first literal watched
  pub watched-first : (x : ℕ) → x < t.variables * 2 → SoundStore (grown m count) t (pushed_words (sealed_words w m.clauses (m.literals + count) p q) x (m.clauses * 2)) ((m.clauses * 2 + 1) ∷ [])
  watched-first x b = (push_step (grown m count) t _ x (m.clauses * 2) _ sealed_sound b).sound

  first-room : (x l : ℕ) → x < t.variables * 2 → l < t.variables * 2 → HasRoom (pushed_words (sealed_words w m.clauses (m.literals + count) p q) x (m.clauses * 2)) l
  first-room x l b c = queue-fits t.variables _ (watched-first x b).formed.ready.words sealed_formed.ready.variables ((m.clauses + 1) * 2) (omega (arith, a.clauses)) _ (watched-first x b).queues l c

  first_solver : (x : ℕ) → x < t.variables * 2 → (s : Solver) → solver_of s (grown m count) t (pushed_words (sealed_words w m.clauses (m.literals + count) p q) x (m.clauses * 2))
      ≡ Sat.keep_watch x m.clauses (solver_of s (grown m count) t (sealed_words w m.clauses (m.literals + count) p q))
  first_solver x b s = let e : m.clauses * 2 / 2 ≡ m.clauses = omega arith in rw e at (push_solver (grown m count) t _ x (m.clauses * 2) _ sealed_sound b s)

  second_solver : (x y : ℕ) → x < t.variables * 2 → y < t.variables * 2 → (s : Solver) → solver_of s (grown m count) t (pushed_words (pushed_words (sealed_words w m.clauses (m.literals + count) p q) x (m.clauses * 2)) y (m.clauses * 2 + 1))
      ≡ Sat.keep_watch y m.clauses (Sat.keep_watch x m.clauses (solver_of s (grown m count) t (sealed_words w m.clauses (m.literals + count) p q)))
  second_solver x y b c s =
      let e : (m.clauses * 2 + 1) / 2 ≡ m.clauses = omega arith in
      (rw e at (push_solver (grown m count) t _ y (m.clauses * 2 + 1) [] (watched-first x b) c s)) ∙ ap (λ (q : Solver). Sat.keep_watch y m.clauses q) (first_solver x b s)

-- ---- a clause attached

-- a literal in the pool that is to become a clause's is one of the variables'
pub pool_range : (m : Store) (t : Trail) (w : List ℕ) (count : ℕ) → Attachable m t w count → (i x : ℕ) → m.literals ≤ i → i < m.literals + count → x ≡ get_or (region LITERALS w) i 0 → x < t.variables * 2
pool_range m t w count a i x h k e = rw e (a.range i h k)

pool_length : (w : List ℕ) → LENT ≤ length w → length (region LITERALS w) ≡ POOL
pool_length w h = length-region LITERALS w (omega arith)

pool_count : (m : Store) (w : List ℕ) (count : ℕ) → LENT ≤ length w → m.literals + count ≤ POOL → length (pool_literals m count w) ≡ count
pool_count m w count h k =
    let e : m.literals + count - m.literals ≡ count = omega arith in
    length-slice m.literals (m.literals + count) (region LITERALS w) (omega (arith, pool_length w h)) ∙ e

-- one literal
unit_literals : (m : Store) (w : List ℕ) → LENT ≤ length w → m.literals + 1 ≤ POOL → pool_literals m 1 w ≡ get_or (region LITERALS w) m.literals 0 ∷ []
unit_literals m w h k =
    slice-cons m.literals (m.literals + 1) (region LITERALS w) 0 (omega arith) (omega (arith, pool_length w h))
    ∙ ap (λ (r : List ℕ). get_or (region LITERALS w) m.literals 0 ∷ r) (rw (← add-one) (slice_empty (m.literals + 1) (region LITERALS w)))

-- two and more
longer_literals : (m : Store) (w : List ℕ) (count : ℕ) → LENT ≤ length w → m.literals + count ≤ POOL → 1 < count
    → pool_literals m count w ≡ get_or (region LITERALS w) m.literals 0 ∷ get_or (region LITERALS w) (m.literals + 1) 0 ∷ slice (suc (m.literals + 1)) (m.literals + count) (region LITERALS w)
longer_literals m w count h k b =
    slice-cons m.literals (m.literals + count) (region LITERALS w) 0 (omega arith) (omega (arith, pool_length w h))
    ∙ ap (λ (r : List ℕ). get_or (region LITERALS w) m.literals 0 ∷ r) (rw (← add-one) (slice-cons (m.literals + 1) (m.literals + count) (region LITERALS w) 0 (omega arith) (omega (arith, pool_length w h))))

-- a clause of one literal at the end, and its watch
one-watched : (s : Solver) (c x : ℕ) (ls : List ℕ) → ls ≡ x ∷ [] → length s.clauses ≡ c
    → Sat.keep_watch x c (record { clauses = snoc s.clauses (record { literals = ls; watched = (place_in x ls, place_in x ls) }); watches = s.watches; assignment = s.assignment; scores = s.scores; inconsistent = s.inconsistent; learned = s.learned })
    ≡ attached_to s ls
unfolding attached_to Sat.keep_watch Sat.with_watches Sat.second_place Sat.watch_clause place_in
one-watched s c x ls e g = rw (e, g, eq-eqb x x refl)

-- a clause of more, and its two watches
two-watched : (s : Solver) (c x y : ℕ) (ls zs : List ℕ) → ls ≡ x ∷ y ∷ zs → (x ≡ y → ⊥) → length s.clauses ≡ c
    → Sat.keep_watch y c (Sat.keep_watch x c (record { clauses = snoc s.clauses (record { literals = ls; watched = (place_in x ls, place_in y ls) }); watches = s.watches; assignment = s.assignment; scores = s.scores; inconsistent = s.inconsistent; learned = s.learned }))
    ≡ attached_to s ls
unfolding attached_to Sat.keep_watch Sat.with_watches Sat.second_place Sat.watch_clause place_in
two-watched s c x y ls zs e d g = rw (e, g, eq-eqb x x refl, ne_eqb x y d, eq-eqb y y refl)

module _ (m : Store) (t : Trail) (w : List ℕ) where
  count-is : (s : Solver) → length (solver_of s m t w).clauses ≡ m.clauses
  unfolding solver_of
  count-is s = length-clauses m.clauses w

  -- the literals of a clause to come
  module _ (count : ℕ) (a : Attachable m t w count) (x : ℕ) (ex : x ≡ get_or (region LITERALS w) m.literals 0) where
    is-first : get_or (pool_literals m count w) 0 0 ≡ x
    is-first =
        let e : m.literals + 0 ≡ m.literals = omega arith in
        slice_in m.literals (m.literals + count) 0 (region LITERALS w) (omega (arith, a.some)) ∙ ap (λ (i : ℕ). get_or (region LITERALS w) i 0) e ∙ sym ex

    first-stands : Stands x (pool_literals m count w)
    first-stands = rw is-first at (stands_at (pool_literals m count w) 0 (omega (arith, pool_count m w count a.sound.formed.ready.words a.literals, a.some)))

    module _ (b : 1 < count) (y : ℕ) (ey : y ≡ get_or (region LITERALS w) (m.literals + 1) 0) where
      is-second : get_or (pool_literals m count w) 1 0 ≡ y
      is-second = slice_in m.literals (m.literals + count) 1 (region LITERALS w) (omega arith) ∙ sym ey

      long : 1 < length (pool_literals m count w)
      long = omega (arith, pool_count m w count a.sound.formed.ready.words a.literals)

      second-stands : Stands y (pool_literals m count w)
      second-stands = rw is-second at (stands_at (pool_literals m count w) 1 long)

      two-differ : x ≡ y → ⊥
      two-differ z = a.apart 0 1 (λ o. omega arith) (omega (arith, long)) long (is-first ∙ z ∙ sym is-second)

  pub attach_unit : (a : Attachable m t w 1) → (x : ℕ) → x ≡ get_or (region LITERALS w) m.literals 0 → (u : List ℕ)
      → u ≡ pushed_words (sealed_words w m.clauses (m.literals + 1) x x) x (m.clauses * 2) → Attached m t w 1 (grown m 1) u
  unfolding solver_of
  attach_unit a x ex u e =
      let f = first-stands 1 a x ex in
      let r = pool_range m t w 1 a m.literals x (omega arith) (omega arith) ex in
      record {
        frame = rw e (unchanged_both watch_regions (sealed_unchanged w m.clauses (m.literals + 1) x x) (pushed_unchanged _ x (m.clauses * 2)));
        sound = let z = watched-first m t w 1 x x a f f x r in rw e (record { formed = z.formed; queues = drop-sound _ _ (m.clauses * 2 + 1) [] z.queues });
        clauses = refl;
        literals = refl;
        is = λ s. rw e (first_solver m t w 1 x x a f f x r s ∙ ap (λ (q : Solver). Sat.keep_watch x m.clauses q) (sealed_solver m t w 1 x x a f f s)
            ∙ one-watched (solver_of s m t w) m.clauses x (pool_literals m 1 w) (rw ex (unit_literals m w a.sound.formed.ready.words a.literals)) (count-is s));
      }

  pub attach_longer : (count : ℕ) (a : Attachable m t w count) → 1 < count → (x y : ℕ) → x ≡ get_or (region LITERALS w) m.literals 0 → y ≡ get_or (region LITERALS w) (m.literals + 1) 0 → (u : List ℕ)
      → u ≡ pushed_words (pushed_words (sealed_words w m.clauses (m.literals + count) x y) x (m.clauses * 2)) y (m.clauses * 2 + 1) → Attached m t w count (grown m count) u
  unfolding solver_of
  attach_longer count a b x y ex ey u e =
      let f = first-stands count a x ex in
      let g = second-stands count a x ex b y ey in
      let r = pool_range m t w count a m.literals x (omega arith) (omega arith) ex in
      let o = pool_range m t w count a (m.literals + 1) y (omega arith) (omega arith) ey in
      record {
        frame = rw e (unchanged_both watch_regions (unchanged_both watch_regions (sealed_unchanged w m.clauses (m.literals + count) x y) (pushed_unchanged _ x (m.clauses * 2))) (pushed_unchanged _ y (m.clauses * 2 + 1)));
        sound = rw e (push_step (grown m count) t _ y (m.clauses * 2 + 1) [] (watched-first m t w count x y a f g x r) o).sound;
        clauses = refl;
        literals = refl;
        is = λ s. rw e (second_solver m t w count x y a f g x y r o s ∙ ap (λ (q : Solver). Sat.keep_watch y m.clauses (Sat.keep_watch x m.clauses q)) (sealed_solver m t w count x y a f g s)
            ∙ two-watched (solver_of s m t w) m.clauses x y (pool_literals m count w) (slice (suc (m.literals + 1)) (m.literals + count) (region LITERALS w)) (rw (ex, ey) (longer_literals m w count a.sound.formed.ready.words a.literals b)) (two-differ count a x ex b y ey) (count-is s));
      }

  -- a queue has room for the first literal's cell, and then for the second's
  pub unit_room : (a : Attachable m t w 1) (x : ℕ) → x ≡ get_or (region LITERALS w) m.literals 0 → HasRoom (sealed_words w m.clauses (m.literals + 1) x x) x
  unit_room a x ex = let f = first-stands 1 a x ex in sealed_room m t w 1 x x a f f x (pool_range m t w 1 a m.literals x (omega arith) (omega arith) ex)

  module _ (count : ℕ) (a : Attachable m t w count) (b : 1 < count) (x y : ℕ) (ex : x ≡ get_or (region LITERALS w) m.literals 0) (ey : y ≡ get_or (region LITERALS w) (m.literals + 1) 0) where
    first_range : x < t.variables * 2
    first_range = pool_range m t w count a m.literals x (omega arith) (omega arith) ex

    pub longer_room : HasRoom (sealed_words w m.clauses (m.literals + count) x y) x
    longer_room = sealed_room m t w count x y a (first-stands count a x ex) (second-stands count a x ex b y ey) x first_range

    pub longer_room_2 : HasRoom (pushed_words (sealed_words w m.clauses (m.literals + count) x y) x (m.clauses * 2)) y
    longer_room_2 = first-room m t w count x y a (first-stands count a x ex) (second-stands count a x ex b y ey) x y first_range (pool_range m t w count a (m.literals + 1) y (omega arith) (omega arith) ey)

-- ---- with the scores

-- a clause with its scores is what the definition adds
add_is : (s : Solver) (ls : List ℕ) → clean ls ≡ true
    → Sat.add_sorted s ls ≡ attached_to (record { clauses = s.clauses; watches = s.watches; assignment = s.assignment; scores = record { activity = Sat.add_ones s.scores.activity ls; activity_increment = s.scores.activity_increment }; inconsistent = s.inconsistent; learned = s.learned }) ls
unfolding Sat.add_sorted Sat.add_unless attached_to clean
add_is s [] e = absurd (let z : ◌≡◌ {A = ℕ} 0 1 = cc e in omega arith)
add_is s (x ∷ xs) e = rw (not-true (Sat.tautological x xs) e)

-- the words w, with the ones of the scores u, with the clause w'
pub added : (m : Store) (t : Trail) (w u : List ℕ) (x : List Float) (count : ℕ) (m' : Store) (w' : List ℕ) (x' : List Float)
    → clean (pool_literals m count w) ≡ true → AddsOnes t (pool_literals m count w) w x u x' → Attached m t u count m' w' → Added m t w x count m' w' x'
unfolding solver_of scored
added m t w u x count m' w' x' c o a = record {
  frame = unchanged_both add_regions (unchanged_within (BLOCKS ∷ []) add_regions refl o.frame) (unchanged_within watch_regions add_regions refl a.frame);
  sound = a.sound;
  clauses = a.clauses;
  literals = a.literals;
  others = o.scores.others;
  is = λ s. a.is (scored s t.variables x')
      ∙ rw (solver_kept (BLOCKS ∷ []) refl m t w u o.frame (scored s t.variables x'), pool_kept (BLOCKS ∷ []) refl m t w u o.frame count, o.scores.is) (sym (add_is (solver_of (scored s t.variables x) m t w) (pool_literals m count w) c));
  cached = λ b k. cached-kept watch_regions t b x' refl a.frame (o.cached b k);
}
