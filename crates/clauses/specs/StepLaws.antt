-- What a push, a change of a watched literal and an assignment make of the solver that the words stand for. Assumes nothing.
use Rattle.std.specs.Prelude.{◌≡◌, Bool, true, false, cond, List, [], ◌∷◌, ◌++◌, ◌⊎◌, ℕ, zero, suc, ◌+◌, ◌*◌, ◌<◌, ◌≤◌, eqb, set, get_or}
use Rattle.std.proofs.Math.Path.{refl, ap, sym}
use Rattle.std.proofs.Common.{◌∙◌, inl, inr, ⊎_elim, arith, eqb-true, get_or-set_same}
use Rattle.std.proofs.lemmas.Bool.{eqb-false}
use Rattle.std.proofs.Math.ListN.{length, length-append}
use Rattle.std.proofs.Math.Seq.{slice, get_or-set_other, set_out}
use Rattle.facts.specs.Bools.{and_left, and_right}
use Rattle.facts.specs.Numbers.{below}
use Rattle.words.specs.Layout.{LENT, SMALL, STARTS, CELLS, VALUES, LEVELS, REASONS, PHASES, TRAIL, LIMITS, WATCH-HEADS, WATCH-TAILS, WATCH-COUNTS, CLAUSE-STARTS, WATCHED, LINKS, LITERALS}
use Rattle.words.specs.Region.{region, apart, stored, stores, stored_in, stored_out, length-stored, length-region}
use Rattle.model.specs.Literal as Literals
use Rattle.model.specs.Lists.{snoc, member}
use Rattle.model.specs.Sat as Sat
use Rattle.model.specs.Sat.{Solver}
use Rattle.assignment.specs.State.{assignment_of, assignment_regions, apart_from, Unchanged, Assigns, word_reason}
use Rattle.assignment.specs.StateLaws.{unchanged_none, unchanged_both, unchanged_stored, variables_are, trail-length}
use Rattle.assignment.specs.KnownLaws.{assign-grows}
use Rattle.assignment.specs.declared.state.Trail.{Trail}
use Rattle.laws.specs.Search.Values.{unset-literal}
use Rattle.clauses.specs.declared.state.Store.{Store}
use Rattle.clauses.specs.Tabulate.{tabulate-set}
use Rattle.clauses.specs.Queue.{queues_of, linked, pushed_words, walk}
use Rattle.clauses.specs.Sound.{SoundQueues}
use Rattle.clauses.specs.Clauses.{clause_at, literals_of, place_in, Stands, clauses_of, watches_of, half, same-clauses, same-literals, same-queues, same-watches, pushed-sound, pushed_pending, pushed-watches}
use Rattle.clauses.specs.State.{solver_of, Watching, Formed, SoundStore, Step, watch_regions, search_regions, unassigned, slot_of}
use Rattle.clauses.specs.ClauseLaws.{slice_in, slice_out}

-- ---- frames

apart-left : (xs ys : List ℕ) (b : ℕ) → apart_from (xs ++ ys) b ≡ true → apart_from xs b ≡ true
apart-left [] ys b e = refl
apart-left (x ∷ xs) ys b e = rw (and_left (apart b x) (apart_from (xs ++ ys) b) e) (apart-left xs ys b (and_right (apart b x) (apart_from (xs ++ ys) b) e))

apart-right : (xs ys : List ℕ) (b : ℕ) → apart_from (xs ++ ys) b ≡ true → apart_from ys b ≡ true
apart-right [] ys b e = e
apart-right (x ∷ xs) ys b e = apart-right xs ys b (and_right (apart b x) (apart_from (xs ++ ys) b) e)

-- what keeps all but the watches' regions keeps all but the search's
pub watches_only : (w w' : List ℕ) → Unchanged watch_regions w w' → Unchanged search_regions w w'
watches_only w w' f = record { same = λ b e. f.same b (apart-left watch_regions assignment_regions b e) }

-- and what keeps all but the assignment's
pub assignment_only : (w w' : List ℕ) → Unchanged assignment_regions w w' → Unchanged search_regions w w'
assignment_only w w' f = record { same = λ b e. f.same b (apart-right watch_regions assignment_regions b e) }

-- the assignment is in none of the watches' regions
pub same-assignment : (t : Trail) (w w' : List ℕ) → Unchanged watch_regions w w' → assignment_of t w' ≡ assignment_of t w
unfolding assignment_of
same-assignment t w w' f =
    rw (f.same VALUES refl, f.same LEVELS refl, f.same REASONS refl, f.same PHASES refl, f.same TRAIL refl, f.same LIMITS refl)

-- the clauses and the queues are in none of the assignment's
pub assigned_clauses : (n : ℕ) (w w' : List ℕ) → Unchanged assignment_regions w w' → clauses_of n w' ≡ clauses_of n w
assigned_clauses n w w' f = same-clauses n w' w (f.same CLAUSE-STARTS refl) (f.same WATCHED refl) (f.same LITERALS refl)

pub assigned_queues : (n : ℕ) (w w' : List ℕ) → Unchanged assignment_regions w w' → queues_of n w' ≡ queues_of n w
assigned_queues n w w' f = same-queues n w' w (f.same WATCH-HEADS refl) (f.same WATCH-TAILS refl) (f.same WATCH-COUNTS refl) (f.same LINKS refl)

-- ---- a push

linked_unchanged : (w : List ℕ) (l x : ℕ) → Unchanged watch_regions w (linked w l x)
unfolding linked member
linked_unchanged w l x = go (eqb (get_or (region WATCH-COUNTS w) l 0) 0)
  where
    go : (b : Bool) → Unchanged watch_regions w (cond b (stored WATCH-HEADS w l x) (stored LINKS w (get_or (region WATCH-TAILS w) l 0) x))
    go true = unchanged_stored watch_regions WATCH-HEADS l x refl (unchanged_none watch_regions w) refl
    go false = unchanged_stored watch_regions LINKS (get_or (region WATCH-TAILS w) l 0) x refl (unchanged_none watch_regions w) refl

pub pushed_unchanged : (w : List ℕ) (l x : ℕ) → Unchanged watch_regions w (pushed_words w l x)
unfolding pushed_words member
pushed_unchanged w l x =
    unchanged_stored watch_regions WATCH-COUNTS l (get_or (region WATCH-COUNTS w) l 0 + 1) refl
    (unchanged_stored watch_regions WATCH-TAILS l x refl (linked_unchanged w l x) refl)
    refl

-- a push stores in none of the clauses' regions
pub pushed-clause-region : (w : List ℕ) (l x b : ℕ) → apart b WATCH-HEADS ≡ true → apart b LINKS ≡ true → apart b WATCH-TAILS ≡ true → apart b WATCH-COUNTS ≡ true → region b (pushed_words w l x) ≡ region b w
unfolding pushed_words linked
pushed-clause-region w l x b e f g h = rw (stored_out b _ WATCH-COUNTS l (get_or (region WATCH-COUNTS w) l 0 + 1) h, stored_out b _ WATCH-TAILS l x g) (go (eqb (get_or (region WATCH-COUNTS w) l 0) 0))
  where
    go : (c : Bool) → region b (cond c (stored WATCH-HEADS w l x) (stored LINKS w (get_or (region WATCH-TAILS w) l 0) x)) ≡ region b w
    go true = stored_out b w WATCH-HEADS l x e
    go false = stored_out b w LINKS (get_or (region WATCH-TAILS w) l 0) x f

pub length-pushed : (w : List ℕ) (l x : ℕ) → length (pushed_words w l x) ≡ length w
unfolding pushed_words linked
length-pushed w l x = rw (length-stored, length-stored) (go (eqb (get_or (region WATCH-COUNTS w) l 0) 0))
  where
    go : (c : Bool) → length (cond c (stored WATCH-HEADS w l x) (stored LINKS w (get_or (region WATCH-TAILS w) l 0) x)) ≡ length w
    go true = length-stored WATCH-HEADS w l x
    go false = length-stored LINKS w (get_or (region WATCH-TAILS w) l 0) x

-- the literals and the watched words of the clauses depend on three regions alone
pub watching-kept : (m : Store) (w w' : List ℕ) → Watching m w → region CLAUSE-STARTS w' ≡ region CLAUSE-STARTS w → region WATCHED w' ≡ region WATCHED w → region LITERALS w' ≡ region LITERALS w → Watching m w'
watching-kept m w w' k a b c =
    record {
      apart = λ i h. rw (same-literals w' w a c i) (k.apart i h);
      first = λ i h. rw (same-literals w' w a c i, b) (k.first i h);
      second = λ i h. rw (same-literals w' w a c i, b) (k.second i h);
    }

-- words with the same clauses and assignment are as well formed
pub formed-kept : (m : Store) (t : Trail) (w w' : List ℕ) → Formed m t w → region CLAUSE-STARTS w' ≡ region CLAUSE-STARTS w → region WATCHED w' ≡ region WATCHED w → region LITERALS w' ≡ region LITERALS w
    → assignment_of t w' ≡ assignment_of t w → length w' ≡ length w → Formed m t w'
formed-kept m t w w' f a d b c n = record {
  ready = record { words = omega (arith, f.ready.words); variables = f.ready.variables; literals = f.ready.literals; levels = f.ready.levels };
  some = f.some;
  clauses = f.clauses;
  literals = f.literals;
  last = rw a f.last;
  within = rw a f.within;
  range = rw b f.range;
  watching = watching-kept m w w' f.watching a d b;
  room = rw c f.room;
}

module _ (m : Store) (t : Trail) (w : List ℕ) (l x : ℕ) (p : List ℕ) (s : SoundStore m t w (x ∷ p)) (in_range : l < t.variables * 2) where
  cells_fit : m.clauses * 2 ≤ CELLS
  cells_fit = omega (arith, s.formed.clauses)

  words_fit : LENT ≤ length w
  words_fit = s.formed.ready.words

  -- after a push all is sound
  pub push_step : Step m t w t (pushed_words w l x) p
  push_step = record {
    frame = watches_only w (pushed_words w l x) (pushed_unchanged w l x);
    sound = record {
      formed = formed-kept m t w (pushed_words w l x) s.formed (pushed-clause-region w l x CLAUSE-STARTS refl refl refl refl) (pushed-clause-region w l x WATCHED refl refl refl refl) (pushed-clause-region w l x LITERALS refl refl refl refl)
          (same-assignment t w (pushed_words w l x) (pushed_unchanged w l x)) (length-pushed w l x);
      queues = pushed-sound t.variables w words_fit s.formed.ready.variables (m.clauses * 2) cells_fit l x p s.queues in_range;
    };
    variables = refl;
    level = refl;
    head = refl;
    grows = λ y f. rw (same-assignment t w (pushed_words w l x) (pushed_unchanged w l x)) at f;
  }

  pub push_clauses : clauses_of m.clauses (pushed_words w l x) ≡ clauses_of m.clauses w
  push_clauses = same-clauses m.clauses (pushed_words w l x) w
      (pushed-clause-region w l x CLAUSE-STARTS refl refl refl refl) (pushed-clause-region w l x WATCHED refl refl refl refl) (pushed-clause-region w l x LITERALS refl refl refl refl)

  -- and the clause stands at the end of the watch list
  pub push_solver : (v : Solver) → solver_of v m t (pushed_words w l x) ≡ Sat.keep_watch l (half x) (solver_of v m t w)
  unfolding solver_of Sat.keep_watch Sat.with_watches
  push_solver v = rw (push_clauses, pushed-watches t.variables w words_fit s.formed.ready.variables (m.clauses * 2) cells_fit l x p s.queues in_range, same-assignment t w (pushed_words w l x) (pushed_unchanged w l x))

  pub push_pending : (n c : ℕ) → p ≡ walk (region LINKS w) n c → walk (region LINKS (pushed_words w l x)) n c ≡ p
  unfolding queues_of
  push_pending n c e = pushed_pending t.variables w words_fit s.formed.ready.variables (m.clauses * 2) cells_fit l x p s.queues in_range n c e

-- ---- a change of a watched literal

-- the places of two clauses do not meet
other_place : (i j k : ℕ) → (i ≡ j → ⊥) → k < 2 → (i * 2 ≡ j * 2 + k → ⊥) × (i * 2 + 1 ≡ j * 2 + k → ⊥)
other_place i j k n h = ((λ e. n (omega arith)), λ e. n (omega arith))

-- what holds of a word, and of the word stored if it is that one, holds of the word then
set_word : (P : ℕ → Type 0) (xs : List ℕ) (j v i : ℕ) → P (get_or xs i 0) → (i ≡ j → P v) → P (get_or (set xs j v) i 0)
set_word P xs j v i p q = go (eqb i j) refl
  where
    go : (b : Bool) → eqb i j ≡ b → P (get_or (set xs j v) i 0)
    go false e = rw (get_or-set_other xs j i v 0 (eqb-false i j e)) p
    go true e = ⊎_elim
        (λ (h : j < length xs). let z = eqb-true i j e in rw (z, get_or-set_same xs j v 0 h) (q z))
        (λ (h : length xs ≤ j). rw (set_out xs j v h) p)
        (below j (length xs))

-- the clause whose watched literal changed
clause-moved : (w : List ℕ) (id l : ℕ) → id < STARTS → LENT ≤ length w → (k : ℕ) → k < 2 → clause_at (stored WATCHED w (id * 2 + k) l) id ≡ Sat.move_watch (clause_at w id) (slot_of k) (place_in l (literals_of w id))
unfolding clause_at literals_of Sat.move_watch slot_of
clause-moved w id l h n zero b =
    let e : id * 2 + 0 ≡ id * 2 = omega arith in
    let r : id * 2 < length (region WATCHED w) = omega (arith, length-region WATCHED w (omega arith)) in
    rw (
      e,
      stored_out CLAUSE-STARTS w WATCHED (id * 2) l refl,
      stored_out LITERALS w WATCHED (id * 2) l refl,
      stored_in WATCHED w (id * 2) l,
      get_or-set_same (region WATCHED w) (id * 2) l 0 r,
      get_or-set_other (region WATCHED w) (id * 2) (id * 2 + 1) l 0 (λ z. omega arith),
    )
clause-moved w id l h n (suc zero) b =
    let r : id * 2 + 1 < length (region WATCHED w) = omega (arith, length-region WATCHED w (omega arith)) in
    rw (
      stored_out CLAUSE-STARTS w WATCHED (id * 2 + 1) l refl,
      stored_out LITERALS w WATCHED (id * 2 + 1) l refl,
      stored_in WATCHED w (id * 2 + 1) l,
      get_or-set_same (region WATCHED w) (id * 2 + 1) l 0 r,
      get_or-set_other (region WATCHED w) (id * 2 + 1) (id * 2) l 0 (λ z. omega arith),
    )
clause-moved w id l h n (suc (suc k)) b = absurd (omega arith)

module _ (w : List ℕ) (id k l : ℕ) (h : id < STARTS) (n : LENT ≤ length w) where
  -- the other clauses
  clause_stays : k < 2 → (j : ℕ) → (j ≡ id → ⊥) → clause_at (stored WATCHED w (id * 2 + k) l) j ≡ clause_at w j
  unfolding clause_at literals_of
  clause_stays b j d =
      rw (
        stored_out CLAUSE-STARTS w WATCHED (id * 2 + k) l refl,
        stored_out LITERALS w WATCHED (id * 2 + k) l refl,
        stored_in WATCHED w (id * 2 + k) l,
        get_or-set_other (region WATCHED w) (id * 2 + k) (j * 2) l 0 (other_place j id k d b).0,
        get_or-set_other (region WATCHED w) (id * 2 + k) (j * 2 + 1) l 0 (other_place j id k d b).1,
      )

  pub clauses-moved : k < 2 → (c : ℕ) → clauses_of c (stored WATCHED w (id * 2 + k) l) ≡ set (clauses_of c w) id (Sat.move_watch (clause_at w id) (slot_of k) (place_in l (literals_of w id)))
  unfolding clauses_of
  clauses-moved b c = tabulate-set c (clause_at w) (clause_at (stored WATCHED w (id * 2 + k) l)) id _ (λ j q d. clause_stays b j d) (λ q. clause-moved w id l h n k b)

module _ (m : Store) (t : Trail) (w : List ℕ) (id k l : ℕ) (b : k < 2) (there : Stands l (literals_of w id)) (p : List ℕ) (s : SoundStore m t w p) where
  pub move_unchanged : Unchanged watch_regions w (stored WATCHED w (id * 2 + k) l)
  unfolding member
  move_unchanged = unchanged_stored watch_regions WATCHED (id * 2 + k) l refl (unchanged_none watch_regions w) refl

  move_queues : queues_of t.variables (stored WATCHED w (id * 2 + k) l) ≡ queues_of t.variables w
  unfolding queues_of
  move_queues = simp stores

  move_literals : (i : ℕ) → literals_of (stored WATCHED w (id * 2 + k) l) i ≡ literals_of w i
  move_literals i = same-literals _ w (stored_out CLAUSE-STARTS w WATCHED (id * 2 + k) l refl) (stored_out LITERALS w WATCHED (id * 2 + k) l refl) i

  -- the clauses still watch literals of their own
  move_watching : Watching m (stored WATCHED w (id * 2 + k) l)
  move_watching =
      let v = s.formed.watching in
      record {
        apart = λ i h. rw (move_literals i) (v.apart i h);
        first = λ i h. rw (move_literals i, stored_in WATCHED w (id * 2 + k) l) (set_word (λ (x : ℕ). Stands x (literals_of w i)) (region WATCHED w) (id * 2 + k) l (i * 2) (v.first i h)
            (λ e. let z : i ≡ id = omega arith in rw z there));
        second = λ i h. rw (move_literals i, stored_in WATCHED w (id * 2 + k) l) (set_word (λ (x : ℕ). Stands x (literals_of w i)) (region WATCHED w) (id * 2 + k) l (i * 2 + 1) (v.second i h)
            (λ e. let z : i ≡ id = omega arith in rw z there));
      }

  pub move_sound : SoundStore m t (stored WATCHED w (id * 2 + k) l) p
  move_sound =
      let f = s.formed in
      record {
        formed = record {
          ready = record { words = rw (length-stored WATCHED w (id * 2 + k) l) f.ready.words; variables = f.ready.variables; literals = f.ready.literals; levels = f.ready.levels };
          some = f.some;
          clauses = f.clauses;
          literals = f.literals;
          last = rw (stored_out CLAUSE-STARTS w WATCHED (id * 2 + k) l refl) f.last;
          within = rw (stored_out CLAUSE-STARTS w WATCHED (id * 2 + k) l refl) f.within;
          range = rw (stored_out LITERALS w WATCHED (id * 2 + k) l refl) f.range;
          watching = move_watching;
          room = rw (same-assignment t w _ move_unchanged) f.room;
        };
        queues = rw move_queues s.queues;
      }

  pub move_watches : watches_of t.variables (stored WATCHED w (id * 2 + k) l) ≡ watches_of t.variables w
  move_watches = same-watches t.variables _ w move_queues

-- the words after the clause of the cell x, the first pending one, goes over to the literal l
unfoldable pub replaced_words : List ℕ → ℕ → ℕ → ℕ → List ℕ
replaced_words w x k l = pushed_words (stored WATCHED w (half x * 2 + k) l) l x

module _ (m : Store) (t : Trail) (w : List ℕ) (x k l : ℕ) (b : k < 2) (there : Stands l (literals_of w (half x))) (p : List ℕ) (s : SoundStore m t w (x ∷ p)) (in_range : l < t.variables * 2) where
  moved : SoundStore m t (stored WATCHED w (half x * 2 + k) l) (x ∷ p)
  moved = move_sound m t w (half x) k l b there (x ∷ p) s

  kept : assignment_of t (stored WATCHED w (half x * 2 + k) l) ≡ assignment_of t w
  kept = same-assignment t w _ (move_unchanged m t w (half x) k l b there (x ∷ p) s)

  pub replace_step : Step m t w t (replaced_words w x k l) p
  unfolding replaced_words
  replace_step =
      let r = push_step m t (stored WATCHED w (half x * 2 + k) l) l x p moved in_range in
      record {
        frame = unchanged_both search_regions (watches_only w _ (move_unchanged m t w (half x) k l b there (x ∷ p) s)) r.frame;
        sound = r.sound;
        variables = refl;
        level = refl;
        head = refl;
        grows = λ y f. rw kept at (r.grows y f);
      }

  pub replace_pending : (n c : ℕ) → p ≡ walk (region LINKS w) n c → walk (region LINKS (replaced_words w x k l)) n c ≡ p
  unfolding replaced_words
  replace_pending n c e = push_pending m t (stored WATCHED w (half x * 2 + k) l) l x p moved in_range n c (rw (stored_out LINKS w WATCHED (half x * 2 + k) l refl) e)

  pub replace_solver : half x < m.clauses → (v : Solver)
      → solver_of v m t (replaced_words w x k l) ≡ Sat.replace_watch (half x) (solver_of v m t w) (clause_at w (half x)) (slot_of k) (place_in l (literals_of w (half x)))
  unfolding replaced_words solver_of Sat.replace_watch clause_at
  replace_solver h v =
      let w1 = stored WATCHED w (half x * 2 + k) l in
      let n : half x < STARTS = omega (arith, s.formed.clauses) in
      rw (
        push_clauses m t w1 l x p moved in_range,
        clauses-moved w (half x) k l n s.formed.ready.words b m.clauses,
        pushed-watches t.variables w1 moved.formed.ready.words s.formed.ready.variables (m.clauses * 2) (cells_fit m t w l x p s in_range) l x p moved.queues in_range,
        move_watches m t w (half x) k l b there (x ∷ p) s,
        same-assignment t w1 (pushed_words w1 l x) (pushed_unchanged w1 l x),
        kept,
        there,
      )

-- ---- an assignment

-- a variable assigned leaves one fewer unassigned
pub one_fewer : (vs : List Sat.Value) (i : ℕ) (b : Bool) → i < length vs → get_or vs i Sat.Unassigned ≡ Sat.Unassigned → suc (unassigned (set vs i (Sat.making_true b))) ≡ unassigned vs
unfolding unassigned Sat.making_true
one_fewer [] i b h e = absurd (omega arith)
one_fewer (Sat.Unassigned ∷ vs) zero true h e = refl
one_fewer (Sat.Unassigned ∷ vs) zero false h e = refl
one_fewer (Sat.False ∷ vs) zero b h e = absurd (let z : ◌≡◌ {A = ℕ} 0 1 = cc e in omega arith)
one_fewer (Sat.True ∷ vs) zero b h e = absurd (let z : ◌≡◌ {A = ℕ} 0 1 = cc e in omega arith)
one_fewer (Sat.Unassigned ∷ vs) (suc i) b h e = ap suc (one_fewer vs i b (omega arith) e)
one_fewer (Sat.False ∷ vs) (suc i) b h e = one_fewer vs i b (omega arith) e
one_fewer (Sat.True ∷ vs) (suc i) b h e = one_fewer vs i b (omega arith) e

module _ (m : Store) (t : Trail) (w : List ℕ) (l : ℕ) (f : Formed m t w) (b : l < t.variables * 2) (u : Sat.value (assignment_of t w) l ≡ Sat.Unassigned) where
  in_range : Literals.node l < length (assignment_of t w).assignments
  unfolding Literals.node
  in_range = omega (arith, variables_are t w f.ready)

  unset : get_or (assignment_of t w).assignments (Literals.node l) Sat.Unassigned ≡ Sat.Unassigned
  unfolding Sat.value
  unset = unset-literal (Literals.inverted l) _ u

  fewer : suc (unassigned (set (assignment_of t w).assignments (Literals.node l) (Sat.making_true (Literals.inverted l)))) ≡ unassigned (assignment_of t w).assignments
  fewer = one_fewer (assignment_of t w).assignments (Literals.node l) (Literals.inverted l) in_range unset

  -- the trail has room for an unassigned literal
  pub has_room : t.length < SMALL
  has_room = omega (arith, fewer, f.room, f.ready.variables)

  module _ (reason : ℕ) (r : Trail) (w' : List ℕ) (a : Assigns t w l reason r w') where
    assigned_values : (assignment_of r w').assignments ≡ set (assignment_of t w).assignments (Literals.node l) (Sat.making_true (Literals.inverted l))
    unfolding Sat.assign
    assigned_values = ap (λ (x : Sat.Assignment). x.assignments) a.is

    assigned_length : r.length ≡ t.length + 1
    unfolding Sat.assign snoc
    assigned_length =
        sym (trail-length r w' a.ready) ∙ ap (λ (x : Sat.Assignment). length x.trail) a.is
        ∙ length-append (assignment_of t w).trail (l ∷ []) ∙ ap (λ (n : ℕ). n + 1) (trail-length t w f.ready)

    assigned_head : r.head ≡ t.head
    unfolding Sat.assign assignment_of
    assigned_head = ap (λ (x : Sat.Assignment). x.propagation_head) a.is

    assigned_formed : Formed m r w'
    assigned_formed = record {
      ready = a.ready;
      some = rw a.variables f.some;
      clauses = f.clauses;
      literals = f.literals;
      last = rw (a.frame.same CLAUSE-STARTS refl) f.last;
      within = rw (a.frame.same CLAUSE-STARTS refl) f.within;
      range = rw (a.frame.same LITERALS refl, a.variables) f.range;
      watching = watching-kept m w w' f.watching (a.frame.same CLAUSE-STARTS refl) (a.frame.same WATCHED refl) (a.frame.same LITERALS refl);
      room = rw (assigned_values, assigned_length, a.variables) (omega (arith, fewer, f.room));
    }

    -- after an assignment all is sound
    pub assign-step : (p : List ℕ) → SoundQueues (queues_of t.variables w) (m.clauses * 2) p → Step m t w r w' p
    assign-step p q = record {
      frame = assignment_only w w' a.frame;
      sound = record { formed = assigned_formed; queues = rw (a.variables, assigned_queues t.variables w w' a.frame) q };
      variables = a.variables;
      level = a.level;
      head = assigned_head;
      grows = assign-grows t w l reason r w' a;
    }

    -- and the clauses and the watch lists are as they were
    pub assign_solver : (v : Solver) → solver_of v m r w' ≡ Sat.with_assignment (solver_of v m t w) (Sat.assign (assignment_of t w) l (word_reason reason))
    unfolding solver_of Sat.with_assignment
    assign_solver v = rw (a.is, assigned_clauses m.clauses w w' a.frame, a.variables, same-watches t.variables w' w (assigned_queues t.variables w w' a.frame))

-- a step after another
pub step_both : (m : Store) (t : Trail) (w : List ℕ) (r : Trail) (w' : List ℕ) (u : Trail) (w'' : List ℕ) (p q : List ℕ) → Step m t w r w' p → Step m r w' u w'' q → Step m t w u w'' q
step_both m t w r w' u w'' p q a b = record {
  frame = unchanged_both search_regions a.frame b.frame;
  sound = b.sound;
  variables = b.variables ∙ a.variables;
  level = b.level ∙ a.level;
  head = b.head ∙ a.head;
  grows = λ y f. a.grows y (b.grows y f);
}

-- a literal of a clause is one of the variables'
pub literal-range : (m : Store) (t : Trail) (w : List ℕ) → Formed m t w → (i : ℕ) → i < m.clauses → (p : ℕ) → get_or (literals_of w i) p 0 < t.variables * 2
unfolding literals_of
literal-range m t w f i h p = go (below (get_or (region CLAUSE-STARTS w) i 0 + p) (get_or (region CLAUSE-STARTS w) (i + 1) 0))
  where
    go : (get_or (region CLAUSE-STARTS w) i 0 + p < get_or (region CLAUSE-STARTS w) (i + 1) 0) ⊎ (get_or (region CLAUSE-STARTS w) (i + 1) 0 ≤ get_or (region CLAUSE-STARTS w) i 0 + p) → get_or (slice (get_or (region CLAUSE-STARTS w) i 0) (get_or (region CLAUSE-STARTS w) (i + 1) 0) (region LITERALS w)) p 0 < t.variables * 2
    go (inl k) = rw (slice_in _ _ p (region LITERALS w) k) (f.range _ (omega (arith, f.within (i + 1) (omega arith))))
    go (inr k) = rw (slice_out _ _ p (region LITERALS w) k) (omega (arith, f.some))
