-- Backtracking and decisions keep a search's clauses and queues sound, and the solver but for its assignment. Assumes nothing.
use Rattle.std.specs.Prelude.{◌≡◌, refl, Bool, true, false, cond, List, [], ◌∷◌, ℕ, zero, suc, ◌+◌, ◌*◌, ◌/◌, ◌<◌, ◌≤◌, leb, length, take, drop, set, get_or}
use Rattle.std.proofs.Common.{ap, arith, length-take, length-drop, length-append}
use Rattle.words.specs.Layout.{BLOCKS, WATCH-HEADS, WATCH-TAILS, WATCH-COUNTS, CLAUSE-STARTS, WATCHED, LINKS, LITERALS}
use Rattle.model.specs.Literal.{node, inverted}
use Rattle.model.specs.Lists as Lists
use Rattle.model.specs.Sat as Sat
use Rattle.assignment.specs.State.{assignment_of, assignment_regions, Unchanged, TrailReady, Becomes, decided}
use Rattle.assignment.specs.Blocks.{Undoes}
use Rattle.assignment.specs.StateLaws.{unchanged_within, trail-length, variables_are}
use Rattle.assignment.specs.declared.state.Trail.{Trail}
use Rattle.clauses.specs.Queue.{queues_of}
use Rattle.clauses.specs.Clauses.{watches_of, same-clauses, same-queues}
use Rattle.clauses.specs.State.{solver_of, unassigned, Formed, SoundStore}
use Rattle.clauses.specs.StepLaws.{one_fewer, watching-kept}
use Rattle.clauses.specs.declared.state.Store.{Store}

-- ---- the room of the trail

-- one variable less is assigned at most
one_less : (vs : List Sat.Value) (i : ℕ) → unassigned (set vs i Sat.Unassigned) ≤ suc (unassigned vs)
unfolding unassigned
one_less [] i = omega arith
one_less (Sat.False ∷ vs) zero = omega arith
one_less (Sat.Unassigned ∷ vs) zero = omega arith
one_less (Sat.True ∷ vs) zero = omega arith
one_less (Sat.False ∷ vs) (suc i) = one_less vs i
one_less (Sat.Unassigned ∷ vs) (suc i) = omega (arith, one_less vs i)
one_less (Sat.True ∷ vs) (suc i) = one_less vs i

-- as many as the literals that are unassigned
all-less : (t : Sat.Assignment) (ls : List ℕ) → unassigned (Sat.unassign_all t ls).assignments ≤ unassigned t.assignments + length ls
unfolding Sat.unassign_all Sat.unassign
all-less t [] = omega arith
all-less t (l ∷ ls) = omega (arith, all-less (Sat.unassign t l) ls, one_less t.assignments (node l))

-- the trail stays meanwhile
all-trail : (t : Sat.Assignment) (ls : List ℕ) → (Sat.unassign_all t ls).trail ≡ t.trail
unfolding Sat.unassign_all Sat.unassign
all-trail t [] = refl
all-trail t (l ∷ ls) = all-trail (Sat.unassign t l) ls

cut-room : (t : Sat.Assignment) (n level : ℕ)
    → unassigned (Sat.cut_trail (Sat.unassign_all t (drop n t.trail)) n level).assignments + length (Sat.cut_trail (Sat.unassign_all t (drop n t.trail)) n level).trail
    ≤ unassigned t.assignments + length t.trail
unfolding Sat.cut_trail
cut-room t n level =
    omega (
      arith,
      all-less t (drop n t.trail),
      length-drop n t.trail,
      length-take n t.trail,
      ap (λ (ls : List ℕ). length (take n ls)) (all-trail t (drop n t.trail)),
    )

-- backtracking leaves as much room
back_room : (t : Sat.Assignment) (level : ℕ) → unassigned (Sat.backtrack t level).assignments + length (Sat.backtrack t level).trail ≤ unassigned t.assignments + length t.trail
unfolding Sat.backtrack Sat.backtrack_unless
back_room t level = go (leb (Sat.decision_level t) level)
  where
    go : (b : Bool) → unassigned (Sat.backtrack_unless t level b).assignments + length (Sat.backtrack_unless t level b).trail ≤ unassigned t.assignments + length t.trail
    go true = omega arith
    go false = cut-room t (get_or t.trail_limits level 0) level

-- ---- soundness

-- of a function that makes the assignment another one, whatever it does with the blocks
pub record Changes (t : Trail) (w : List ℕ) (a : Sat.Assignment) (r : Trail) (w' : List ℕ) : Type 0 where
  pub is : assignment_of r w' ≡ a
  pub frame : Unchanged (BLOCKS ∷ assignment_regions) w w'
  pub ready : TrailReady r w'
  pub variables : r.variables ≡ t.variables

pub becomes_changes : (t : Trail) (w : List ℕ) (a : Sat.Assignment) (r : Trail) (w' : List ℕ) → Becomes t w a r w' → Changes t w a r w'
becomes_changes t w a r w' b = record { is = b.is; frame = unchanged_within assignment_regions (BLOCKS ∷ assignment_regions) refl b.frame; ready = b.ready; variables = b.variables }

pub undoes_changes : (t : Trail) (w : List ℕ) (a : Sat.Assignment) (r : Trail) (w' : List ℕ) → Undoes t w a r w' → Changes t w a r w'
undoes_changes t w a r w' b = record { is = b.is; frame = b.frame; ready = b.ready; variables = b.variables }

-- the queues and the clauses are as they were
queues-same : (n : ℕ) (w w' : List ℕ) → Unchanged (BLOCKS ∷ assignment_regions) w w' → queues_of n w' ≡ queues_of n w
queues-same n w w' f = same-queues n w' w (f.same WATCH-HEADS refl) (f.same WATCH-TAILS refl) (f.same WATCH-COUNTS refl) (f.same LINKS refl)

-- another assignment that leaves as much room is sound
sound_becomes : (m : Store) (t r : Trail) (w w' : List ℕ) (a : Sat.Assignment) → SoundStore m t w [] → Changes t w a r w'
    → unassigned a.assignments + length a.trail ≤ unassigned (assignment_of t w).assignments + length (assignment_of t w).trail → SoundStore m r w' []
sound_becomes m t r w w' a s b k =
    let f = s.formed in
    record {
      formed =
          record {
            ready = b.ready;
            some = omega (arith, f.some, b.variables);
            clauses = f.clauses;
            literals = f.literals;
            last = rw (b.frame.same CLAUSE-STARTS refl) f.last;
            within = rw (b.frame.same CLAUSE-STARTS refl) f.within;
            range = rw (b.frame.same LITERALS refl, b.variables) f.range;
            watching = watching-kept m w w' f.watching (b.frame.same CLAUSE-STARTS refl) (b.frame.same WATCHED refl) (b.frame.same LITERALS refl);
            room =
                omega (
                  arith,
                  f.room,
                  k,
                  trail-length t w f.ready,
                  trail-length r w' b.ready,
                  b.variables,
                  ap (λ (u : Sat.Assignment). unassigned u.assignments) b.is,
                  ap (λ (u : Sat.Assignment). length u.trail) b.is,
                );
          };
      queues = rw (b.variables, queues-same t.variables w w' b.frame) s.queues;
    }

-- after backtracking all is sound
pub sound_back : (m : Store) (t r : Trail) (w w' : List ℕ) (level : ℕ) → SoundStore m t w [] → Changes t w (Sat.backtrack (assignment_of t w) level) r w' → SoundStore m r w' []
sound_back m t r w w' level s b = sound_becomes m t r w w' (Sat.backtrack (assignment_of t w) level) s b (back_room (assignment_of t w) level)

-- the solver with another assignment
pub solver_becomes : (s : Sat.Solver) (m : Store) (t r : Trail) (w w' : List ℕ) (a : Sat.Assignment) → Changes t w a r w' → solver_of s m r w' ≡ Sat.with_assignment (solver_of s m t w) a
unfolding solver_of Sat.with_assignment watches_of
solver_becomes s m t r w w' a b =
    rw (
      same-clauses m.clauses w' w (b.frame.same CLAUSE-STARTS refl) (b.frame.same WATCHED refl) (b.frame.same LITERALS refl),
      b.is,
      b.variables,
      queues-same t.variables w w' b.frame,
    )

-- ---- a decision

-- the literal of a decision is of its variable
decision-node : (t : Sat.Assignment) (v : ℕ) → node (Sat.decision t v) ≡ v
unfolding node Sat.decision
decision-node t v = go (get_or t.phases v false)
  where
    go : (b : Bool) → cond b (v * 2) (v * 2 + 1) / 2 ≡ v
    go true = omega arith
    go false = omega arith

-- a decision takes one variable and one place of the trail
decide-room : (t : Sat.Assignment) (v : ℕ) → v < length t.assignments → get_or t.assignments v Sat.Unassigned ≡ Sat.Unassigned
    → unassigned (decided t v).assignments + length (decided t v).trail ≡ unassigned t.assignments + length t.trail
unfolding decided Sat.assign Sat.push_limit Lists.snoc
decide-room t v h e =
    let x = Sat.making_true (inverted (Sat.decision t v)) in
    let a : unassigned (set t.assignments (node (Sat.decision t v)) x) ≡ unassigned (set t.assignments v x) = ap (λ (i : ℕ). unassigned (set t.assignments i x)) (decision-node t v) in
    omega (arith, a, one_fewer t.assignments v (inverted (Sat.decision t v)) h e, length-append t.trail (Sat.decision t v ∷ []))

-- the trail has room for a variable that is not assigned
pub decide-fits : (m : Store) (t : Trail) (w : List ℕ) (v : ℕ) → Formed m t w → v < t.variables → get_or (assignment_of t w).assignments v Sat.Unassigned ≡ Sat.Unassigned → t.length < t.variables
decide-fits m t w v f h e =
    omega (arith, f.room, one_fewer (assignment_of t w).assignments v true (omega (arith, variables_are t w f.ready)) e)

-- after a decision all is sound
pub sound-decide : (m : Store) (t r : Trail) (w w' : List ℕ) (v : ℕ) → SoundStore m t w [] → v < t.variables → get_or (assignment_of t w).assignments v Sat.Unassigned ≡ Sat.Unassigned
    → Changes t w (decided (assignment_of t w) v) r w' → SoundStore m r w' []
sound-decide m t r w w' v s h e b =
    sound_becomes m t r w w' (decided (assignment_of t w) v) s b
    (omega (arith, decide-room (assignment_of t w) v (omega (arith, variables_are t w s.formed.ready)) e))
