-- Laws of the pending clauses of a literal and of the rounds of a propagation. Assumes nothing.
use Rattle.std.specs.Prelude.{◌≡◌, set, get_or, length}
use Rattle.std.proofs.Math.Path.{refl, sym}
use Rattle.std.proofs.Common.{ap, ◌∙◌, ⊎_elim, add-one, set-set, get_or-set_same}
use mathlib.Core.List.{List, [], ◌∷◌, ◌++◌, map, append_assoc, append-nil}
use Rattle.std.proofs.Math.Option.{some}
use Prim.Native.Nat.{ℕ, zero, suc, ◌+◌, ◌-◌, ◌*◌, ◌<◌, ◌≤◌}
use native.Mathlib.Omega.{arith}
use Rattle.std.proofs.Math.ListN.{get_elem?}
use Rattle.std.proofs.Math.Seq.{set_out, get_or-take}
use Rattle.std.proofs.lemmas.List.{set-get_or}
use Rattle.facts.specs.Numbers.{below}
use Rattle.facts.specs.Lists.{get_elem_in, get_elem_out}
use Rattle.words.specs.Layout.{TRAIL, WATCH-HEADS, WATCH-COUNTS, CLAUSE-STARTS, WATCHED, LINKS, LITERALS}
use Rattle.words.specs.Region.{region, stored, stored_out, length-stored}
use Rattle.model.specs.Literal as Literals
use Rattle.model.specs.Lists.{snoc, member}
use Rattle.model.specs.Sat as Sat
use Rattle.model.specs.Sat.{Solver}
use Rattle.assignment.specs.State.{assignment_of, TrailReady, Unchanged}
use Rattle.assignment.specs.StateLaws.{unchanged_none, unchanged_both, unchanged_stored, trail-length, variables_are}
use Rattle.assignment.specs.declared.state.Trail.{Trail}
use Rattle.clauses.specs.declared.state.Store.{Store}
use Rattle.watches.specs.declared.state.Pending.{Pending}
use Rattle.watches.specs.declared.state.Propagation.{Propagation}
use Rattle.watches.specs.declared.state.Propagation.TheVariants as Propagations
use Rattle.clauses.specs.Queue.{queues_of, queue, walk}
use Rattle.clauses.specs.Sound.{SoundQueues, drop-sound}
use Rattle.clauses.specs.Clauses.{half, watches_of, same-clauses, no_watch_list, watch_list, length-watches, taken-sound, taken-watches}
use Rattle.clauses.specs.State.{solver_of, Formed, SoundStore, Step, watch_regions, search_regions}
use Rattle.clauses.specs.StepLaws.{step_both, formed-kept, same-assignment, watches_only}
use Rattle.watches.specs.State.{trail_of, propagation_of, pending_of, rest_of, appended, Visiting, Visits, Taken, Propagates, advanced}
use Rattle.watches.specs.VisitLaws.{pending_cons}

-- ---- clauses appended to a watch list

append_set : (ws : List (List ℕ)) (f : ℕ) (a ids : List ℕ) → set (set ws f a) f (get_or (set ws f a) f [] ++ ids) ≡ set ws f (a ++ ids)
append_set ws f a ids = ⊎_elim
    (λ (h : f < length ws). rw (get_or-set_same ws f a [] h, set-set))
    (λ (h : length ws ≤ f). rw (set_out ws f a h, set_out ws f (get_or ws f [] ++ ids) h, set_out ws f (a ++ ids) h))
    (below f (length ws))

-- the first kept, then the rest appended
pub appended_cons : (f id : ℕ) (ids : List ℕ) (s : Solver) → appended f ids (Sat.keep_watch f id s) ≡ appended f (id ∷ ids) s
unfolding appended Sat.keep_watch Sat.with_watches Sat.push_watch snoc
appended_cons f id ids s = rw (append_set s.watches f (get_or s.watches f [] ++ (id ∷ [])) ids, append_assoc)

-- nothing appended
pub appended-none : (f : ℕ) (s : Solver) → appended f [] s ≡ s
unfolding appended Sat.with_watches
appended-none f s = rw (append-nil, set-get_or)

-- ---- the cells after the first

pub next_pending : (d r : Pending) (w w' : List ℕ) → r.cell ≡ get_or (region LINKS w) d.cell 0 → r.left ≡ d.left - 1 → pending_of r w' ≡ rest_of d w w'
unfolding pending_of rest_of
next_pending d r w w' e g = rw (e, g)

pub pending_none : (d : Pending) (w : List ℕ) → d.left ≤ 0 → pending_of d w ≡ []
unfolding pending_of walk
pending_none d w h = let e : d.left ≡ 0 = omega arith in rw e

step-none : (m : Store) (t : Trail) (w : List ℕ) (p : List ℕ) → SoundStore m t w p → Step m t w t w p
step-none m t w p s = record { frame = unchanged_none search_regions w; sound = s; variables = refl; level = refl; head = refl; grows = λ y f. f }

-- ---- the pending clauses restored

-- while they are restored: what is left of them is to be appended
pub record Restoring (m : Store) (t : Trail) (f : ℕ) (w₀ : List ℕ) (d₀ : Pending) (w : List ℕ) (d : Pending) : Type 0 where
  pub step : Step m t w₀ t w (pending_of d w)
  pub literal : 0 < d.left → f < t.variables * 2
  pub left : (s : Solver) → appended f (map half (pending_of d w)) (solver_of s m t w) ≡ appended f (map half (pending_of d₀ w₀)) (solver_of s m t w₀)

module _ (m : Store) (t : Trail) (f : ℕ) (w₀ : List ℕ) (d₀ : Pending) where
  module _ (w : List ℕ) (d : Pending) (i : Restoring m t f w₀ d₀ w d) where
    pub restore_visiting : 0 < d.left → Visiting m t w d × (f < t.variables * 2)
    restore_visiting h = (record { sound = i.step.sound; some = h }, i.literal h)

    pub restore_more : 0 < d.left → (w' : List ℕ) → Visits m t w d t w' → ((s : Solver) → solver_of s m t w' ≡ Sat.keep_watch f (half d.cell) (solver_of s m t w))
        → (r : Pending) → r.cell ≡ get_or (region LINKS w) d.cell 0 → r.left ≡ d.left - 1 → Restoring m t f w₀ d₀ w' r
    restore_more h w' v k r a b =
        let e : pending_of r w' ≡ rest_of d w w = next_pending d r w w' a b ∙ v.same in
        record {
          step = rw e (step_both m t w₀ t w t w' _ _ i.step v.step);
          literal = λ z. i.literal h;
          left = λ s. rw (e, k s) (appended_cons f (half d.cell) (map half (rest_of d w w)) (solver_of s m t w) ∙ rw (pending_cons d w h) at (i.left s));
        }

    pub restore_end : d.left ≤ 0 → Step m t w₀ t w [] × ((s : Solver) → solver_of s m t w ≡ appended f (map half (pending_of d₀ w₀)) (solver_of s m t w₀))
    restore_end h =
        let e = pending_none d w h in
        (rw e at i.step, λ s. sym (appended-none f (solver_of s m t w)) ∙ rw e at (i.left s))

-- ---- the pending clauses visited

pending_conflict : (f : ℕ) (ids : List ℕ) (k : ℕ) (s : Solver) → Sat.visit_pending f ids (Sat.conflict k s) ≡ Sat.conflict k (appended f ids s)
unfolding Sat.visit_pending appended
pending_conflict f [] k s = ap (λ (q : Solver). Sat.conflict k q) (sym (appended-none f s))
pending_conflict f (id ∷ ids) k s = refl

pending_complete : (f : ℕ) (ids : List ℕ) (s : Solver) → Sat.visit_pending f ids (Sat.complete s) ≡ Sat.complete s
unfolding Sat.visit_pending
pending_complete f [] s = refl
pending_complete f (id ∷ ids) s = refl

drop_all : (m : Store) (n : ℕ) (w : List ℕ) (p : List ℕ) → SoundQueues (queues_of n w) (m.clauses * 2) p → SoundQueues (queues_of n w) (m.clauses * 2) []
drop_all m n w [] s = s
drop_all m n w (x ∷ p) s = drop_all m n w p (drop-sound (queues_of n w) (m.clauses * 2) x p s)

-- while they are visited: what is left of them is to be visited
pub record Pends (m : Store) (f : ℕ) (t₀ : Trail) (w₀ : List ℕ) (d₀ : Pending) (t : Trail) (w : List ℕ) (d : Pending) : Type 0 where
  pub step : Step m t₀ w₀ t w (pending_of d w)
  pub literal : 0 < d.left → f < t₀.variables * 2
  pub left : (s : Solver) → Sat.visit_pending f (map half (pending_of d w)) (Sat.propagating (solver_of s m t w)) ≡ Sat.visit_pending f (map half (pending_of d₀ w₀)) (Sat.propagating (solver_of s m t₀ w₀))

module _ (m : Store) (f : ℕ) (t₀ : Trail) (w₀ : List ℕ) (d₀ : Pending) where
  module _ (t : Trail) (w : List ℕ) (d : Pending) (i : Pends m f t₀ w₀ d₀ t w d) where
    pub pends_visiting : 0 < d.left → Visiting m t w d
    pends_visiting h = record { sound = i.step.sound; some = h }

    pub pends_end : d.left ≤ 0 → Step m t₀ w₀ t w [] × ((s : Solver) → Sat.propagating (solver_of s m t w) ≡ Sat.visit_pending f (map half (pending_of d₀ w₀)) (Sat.propagating (solver_of s m t₀ w₀)))
    unfolding Sat.visit_pending
    pends_end h = let e = pending_none d w h in (rw e at i.step, λ s. rw e at (i.left s))

    module _ (h : 0 < d.left) (w' : List ℕ) (q : Propagation) (v : Visits m t w d (trail_of q) w')
        (k : (s : Solver) → propagation_of s m w' q ≡ Sat.visit f (half d.cell) (solver_of s m t w))
        (r : Pending) (a : r.cell ≡ get_or (region LINKS w) d.cell 0) (b : r.left ≡ d.left - 1) where
      rest-is : pending_of r w' ≡ rest_of d w w
      rest-is = next_pending d r w w' a b ∙ v.same

      steps : Step m t₀ w₀ (trail_of q) w' (rest_of d w w)
      steps = step_both m t₀ w₀ t w (trail_of q) w' _ _ i.step v.step

      visited : (s : Solver) → Sat.visit_pending f (map half (rest_of d w w)) (propagation_of s m w' q) ≡ Sat.visit_pending f (map half (pending_of d₀ w₀)) (Sat.propagating (solver_of s m t₀ w₀))
      unfolding Sat.visit_pending
      visited s = rw (k s) (rw (pending_cons d w h) at (i.left s))

      pub pends_more : (u : Trail) → q ≡ Propagations.Propagating u → Pends m f t₀ w₀ d₀ u w' r
      pends_more u e = record { step = rw rest-is (rw e at steps); literal = λ z. i.literal h; left = λ s. rw rest-is (rw e at (visited s)) }

      pub pends_complete : (u : Trail) → q ≡ Propagations.Complete u
          → Step m t₀ w₀ u w' [] × ((s : Solver) → Sat.complete (solver_of s m u w') ≡ Sat.visit_pending f (map half (pending_of d₀ w₀)) (Sat.propagating (solver_of s m t₀ w₀)))
      pends_complete u e =
          let z : Step m t₀ w₀ u w' (rest_of d w w) = rw e at steps in (
            record { frame = z.frame; sound = record { formed = z.sound.formed; queues = drop_all m u.variables w' (rest_of d w w) z.sound.queues }; variables = z.variables; level = z.level; head = z.head; grows = z.grows },
            λ s. sym (pending_complete f (map half (rest_of d w w)) (solver_of s m u w')) ∙ rw e at (visited s),
          )

      module _ (id : ℕ) (u : Trail) (e : q ≡ Propagations.Conflict id u) where
        pub conflict-sound : SoundStore m u w' (pending_of r w') × (0 < r.left → f < u.variables * 2)
        conflict-sound = let z : Step m t₀ w₀ u w' (rest_of d w w) = rw e at steps in (rw rest-is z.sound, λ y. omega (arith, i.literal h, z.variables))

        pub pends_conflict : (w'' : List ℕ) → Step m u w' u w'' [] → ((s : Solver) → solver_of s m u w'' ≡ appended f (map half (pending_of r w')) (solver_of s m u w'))
            → Step m t₀ w₀ u w'' [] × ((s : Solver) → Sat.conflict id (solver_of s m u w'') ≡ Sat.visit_pending f (map half (pending_of d₀ w₀)) (Sat.propagating (solver_of s m t₀ w₀)))
        pends_conflict w'' z g = (
          step_both m t₀ w₀ u w' u w'' _ _ (rw e at steps) z,
          λ s. rw (g s, rest-is) (sym (pending_conflict f (map half (rest_of d w w)) id (solver_of s m u w')) ∙ rw e at (visited s)),
        )

-- ---- a queue taken

module _ (m : Store) (t : Trail) (w : List ℕ) (f : ℕ) (s : SoundStore m t w []) where
  -- there is none
  pub take_none : t.variables * 2 ≤ f → Taken m t w f (record { cell = 0; left = 0 }) w
  unfolding pending_of walk
  take_none h = record {
    step = step-none m t w [] s;
    literal = λ k. absurd (omega arith);
    cells = sym (no_watch_list t.variables w f h);
    watches = sym (set_out (watches_of t.variables w) f [] (omega (arith, length-watches t.variables w)));
    clauses = refl;
    assignment = refl;
  }

  module _ (h : f < t.variables * 2) (u : List ℕ) (e : u ≡ stored WATCH-COUNTS w f 0) where
    taken_unchanged : Unchanged watch_regions w u
    unfolding member
    taken_unchanged = unchanged_stored watch_regions WATCH-COUNTS f 0 refl (unchanged_none watch_regions w) e

    taken-formed : Formed m t u
    taken-formed = formed-kept m t w u s.formed (rw e (stored_out CLAUSE-STARTS w WATCH-COUNTS f 0 refl)) (rw e (stored_out WATCHED w WATCH-COUNTS f 0 refl)) (rw e (stored_out LITERALS w WATCH-COUNTS f 0 refl)) (same-assignment t w u taken_unchanged) (rw e (length-stored WATCH-COUNTS w f 0))

    taken_pending : (d : Pending) → d.cell ≡ get_or (region WATCH-HEADS w) f 0 → d.left ≡ get_or (region WATCH-COUNTS w) f 0 → pending_of d u ≡ queue (queues_of t.variables w) f
    unfolding pending_of queue queues_of
    taken_pending d a b = rw (e, stored_out LINKS w WATCH-COUNTS f 0 refl, a, b, get_or-take (t.variables * 2) (region WATCH-COUNTS w) f 0 h)

    pub take-some : (d : Pending) → d.cell ≡ get_or (region WATCH-HEADS w) f 0 → d.left ≡ get_or (region WATCH-COUNTS w) f 0 → Taken m t w f d u
    take-some d a b = record {
      step = record {
        frame = watches_only w u taken_unchanged;
        sound = record { formed = taken-formed; queues = rw (taken_pending d a b, e) (taken-sound t.variables w s.formed.ready.words s.formed.ready.variables (m.clauses * 2) (omega (arith, s.formed.clauses)) f s.queues h) };
        variables = refl;
        level = refl;
        head = refl;
        grows = λ y f. rw (same-assignment t w u taken_unchanged) at f;
      };
      literal = λ k. h;
      cells = rw (taken_pending d a b) (sym (watch_list t.variables w f h));
      watches = rw e (taken-watches t.variables w s.formed.ready.words s.formed.ready.variables (m.clauses * 2) (omega (arith, s.formed.clauses)) f s.queues h);
      clauses = rw e (same-clauses m.clauses (stored WATCH-COUNTS w f 0) w (stored_out CLAUSE-STARTS w WATCH-COUNTS f 0 refl) (stored_out WATCHED w WATCH-COUNTS f 0 refl) (stored_out LITERALS w WATCH-COUNTS f 0 refl));
      assignment = same-assignment t w u taken_unchanged;
    }

-- ---- a round

head_read : (t : Trail) (w : List ℕ) → t.head < t.length → get_or (assignment_of t w).trail t.head 0 ≡ get_or (region TRAIL w) t.head 0
unfolding assignment_of
head_read t w h = get_or-take t.length (region TRAIL w) t.head 0 h

-- the literal at the head
head-literal : (t : Trail) (w : List ℕ) → TrailReady t w → t.head < t.length → get_elem? (assignment_of t w).trail t.head ≡ some (get_or (region TRAIL w) t.head 0)
head-literal t w r h = get_elem_in (assignment_of t w).trail t.head 0 (omega (arith, trail-length t w r)) ∙ ap (λ (l : ℕ). some l) (head_read t w h)

-- the head one further
pub advanced-sound : (m : Store) (t : Trail) (w : List ℕ) (p : List ℕ) → SoundStore m t w p → SoundStore m (advanced t) w p
unfolding assignment_of
advanced-sound m t w p s = record {
  formed = record {
    ready = record { words = s.formed.ready.words; variables = s.formed.ready.variables; literals = s.formed.ready.literals; levels = s.formed.ready.levels };
    some = s.formed.some;
    clauses = s.formed.clauses;
    literals = s.formed.literals;
    last = s.formed.last;
    within = s.formed.within;
    range = s.formed.range;
    watching = s.formed.watching;
    room = s.formed.room;
  };
  queues = s.queues;
}

-- an assignment with its head one further
further : Sat.Assignment → Sat.Assignment
further a =
    record {
      assignments = a.assignments;
      levels = a.levels;
      reasons = a.reasons;
      phases = a.phases;
      trail = a.trail;
      trail_limits = a.trail_limits;
      propagation_head = suc a.propagation_head;
    }

advanced-assignment : (t : Trail) (w : List ℕ) → assignment_of (advanced t) w ≡ further (assignment_of t w)
unfolding assignment_of further
advanced-assignment t w = rw add-one

further-values : (t : Trail) (w : List ℕ) → (assignment_of (advanced t) w).assignments ≡ (assignment_of t w).assignments
unfolding assignment_of
further-values t w = refl

head-is : (t : Trail) (w : List ℕ) → (assignment_of t w).propagation_head ≡ t.head
unfolding assignment_of
head-is t w = refl

module _ (m : Store) (t : Trail) (w : List ℕ) (f : ℕ) (d : Pending) (u : List ℕ) (k : Taken m t w f d u) where
  taken_solver : (s : Solver) → solver_of s m (advanced t) u ≡ Sat.take_watches (solver_of s m t w) f
  unfolding solver_of Sat.take_watches further
  taken_solver s = rw (k.clauses, k.watches, advanced-assignment t u, k.assignment)

  module _ (r : TrailReady t w) (h : t.head < t.length) (e : f ≡ Literals.negate (get_or (region TRAIL w) t.head 0)) where
    round_is : (s : Solver) → Sat.propagate_round (solver_of s m t w) ≡ Sat.visit_pending f (map half (pending_of d u)) (Sat.propagating (solver_of s m (advanced t) u))
    unfolding Sat.propagate_round Sat.propagate_assigned solver_of
    round_is s = rw (taken_solver s, k.cells, head-is t w, head-literal t w r h, ← e)

    pub round-done : (q : Propagation) (w' : List ℕ) → Step m (advanced t) u (trail_of q) w' []
        → ((s : Solver) → propagation_of s m w' q ≡ Sat.visit_pending f (map half (pending_of d u)) (Sat.propagating (solver_of s m (advanced t) u)))
        → Step m (advanced t) w (trail_of q) w' [] × ((s : Solver) → propagation_of s m w' q ≡ Sat.propagate_round (solver_of s m t w))
    round-done q w' z g = (
      record { frame = unchanged_both search_regions k.step.frame z.frame; sound = z.sound; variables = z.variables; level = z.level; head = z.head; grows = λ y f. rw (further-values t w) (k.step.grows y (rw (further-values t u) at (z.grows y f))) },
      λ s. g s ∙ sym (round_is s),
    )

-- ---- rounds

-- at the end of the trail
round-none : (m : Store) (t : Trail) (w : List ℕ) → TrailReady t w → t.length ≤ t.head → (s : Solver) → Sat.propagate_round (solver_of s m t w) ≡ Sat.complete (solver_of s m t w)
unfolding Sat.propagate_round Sat.propagate_assigned solver_of
round-none m t w r h s = rw (head-is t w, get_elem_out (assignment_of t w).trail t.head (omega (arith, trail-length t w r)))

rounds-complete : (n : ℕ) (s : Solver) → Sat.propagate_rounds n (Sat.complete s) ≡ Sat.complete s
unfolding Sat.propagate_rounds
rounds-complete zero s = refl
rounds-complete (suc n) s = refl

rounds-conflict : (n k : ℕ) (s : Solver) → Sat.propagate_rounds n (Sat.conflict k s) ≡ Sat.conflict k s
unfolding Sat.propagate_rounds
rounds-conflict zero k s = refl
rounds-conflict (suc n) k s = refl

rounds-more : (n k : ℕ) (s : Solver) → k ≤ n → Sat.propagate_rounds (suc n - k) (Sat.propagating s) ≡ Sat.propagate_rounds (suc n - (k + 1)) (Sat.propagate_round s)
unfolding Sat.propagate_rounds
rounds-more n k s h = let e : suc n - k ≡ suc (suc n - (k + 1)) = omega arith in rw e

-- between rounds: as many are left as the trail has places from its head on, and more
pub record Rounds (m : Store) (t₀ : Trail) (w₀ : List ℕ) (t : Trail) (w : List ℕ) : Type 0 where
  pub done : Propagates m t₀ w₀ t w
  pub from : t₀.head ≤ t.head
  pub fuel : t.head - t₀.head ≤ t₀.variables
  pub left : (s : Solver) → Sat.propagate_rounds (suc t₀.variables - (t.head - t₀.head)) (Sat.propagating (solver_of s m t w)) ≡ Sat.propagate (solver_of s m t₀ w₀)

module _ (m : Store) (t₀ : Trail) (w₀ : List ℕ) where
  pub rounds-start : SoundStore m t₀ w₀ [] → Rounds m t₀ w₀ t₀ w₀
  unfolding Sat.propagate solver_of
  rounds-start s = record {
    done = record { frame = unchanged_none search_regions w₀; sound = s; variables = refl; level = refl; grows = λ y f. f };
    from = omega arith;
    fuel = omega arith;
    left = λ v. let e : suc t₀.variables - (t₀.head - t₀.head) ≡ suc t₀.variables = omega arith in rw (e, variables_are t₀ w₀ s.formed.ready);
  }

  module _ (t : Trail) (w : List ℕ) (i : Rounds m t₀ w₀ t w) where
    pub rounds-end : t.length ≤ t.head → (s : Solver) → Sat.complete (solver_of s m t w) ≡ Sat.propagate (solver_of s m t₀ w₀)
    rounds-end h s =
        sym (rounds-complete (suc t₀.variables - (t.head - t₀.head + 1)) (solver_of s m t w))
        ∙ ap (λ (p : Sat.Propagation). Sat.propagate_rounds (suc t₀.variables - (t.head - t₀.head + 1)) p) (sym (round-none m t w i.done.sound.formed.ready h s))
        ∙ sym (rounds-more t₀.variables (t.head - t₀.head) (solver_of s m t w) i.fuel)
        ∙ i.left s

    -- the head is within the variables
    pub head-below : t.head < t.length → t.head < t₀.variables
    head-below h = omega (arith, i.done.sound.formed.room, i.done.variables)

    module _ (h : t.head < t.length) (w' : List ℕ) (q : Propagation) (z : Step m (advanced t) w (trail_of q) w' [])
        (g : (s : Solver) → propagation_of s m w' q ≡ Sat.propagate_round (solver_of s m t w)) where
      done : Propagates m t₀ w₀ (trail_of q) w'
      done = record { frame = unchanged_both search_regions i.done.frame z.frame; sound = z.sound; variables = z.variables ∙ i.done.variables; level = z.level ∙ i.done.level; grows = λ y f. i.done.grows y (rw (further-values t w) at (z.grows y f)) }

      left : (s : Solver) → Sat.propagate_rounds (suc t₀.variables - (t.head - t₀.head + 1)) (propagation_of s m w' q) ≡ Sat.propagate (solver_of s m t₀ w₀)
      left s = rw (g s) (sym (rounds-more t₀.variables (t.head - t₀.head) (solver_of s m t w) i.fuel) ∙ i.left s)

      pub rounds-next : (u : Trail) → q ≡ Propagations.Propagating u → Rounds m t₀ w₀ u w'
      rounds-next u e =
          let n : u.head ≡ t.head + 1 = (rw e at z).head in
          let k : u.head - t₀.head ≡ t.head - t₀.head + 1 = omega (arith, i.from) in
          record {
            done = rw e at done;
            from = omega (arith, i.from);
            fuel = omega (arith, head-below h, i.from);
            left = λ s. rw k (rw e at (left s));
          }

      pub rounds-complete-at : (u : Trail) → q ≡ Propagations.Complete u → Propagates m t₀ w₀ u w' × ((s : Solver) → Sat.complete (solver_of s m u w') ≡ Sat.propagate (solver_of s m t₀ w₀))
      rounds-complete-at u e = (rw e at done, λ s. sym (rounds-complete _ (solver_of s m u w')) ∙ rw e at (left s))

      pub rounds-conflict-at : (id : ℕ) (u : Trail) → q ≡ Propagations.Conflict id u → Propagates m t₀ w₀ u w' × ((s : Solver) → Sat.conflict id (solver_of s m u w') ≡ Sat.propagate (solver_of s m t₀ w₀))
      rounds-conflict-at id u e = (rw e at done, λ s. sym (rounds-conflict _ id (solver_of s m u w')) ∙ rw e at (left s))

      -- a round after which there is no other
      pub rounds-ended : ((u : Trail) → q ≡ Propagations.Propagating u → ⊥) → Propagates m t₀ w₀ (trail_of q) w' × ((s : Solver) → propagation_of s m w' q ≡ Sat.propagate (solver_of s m t₀ w₀))
      rounds-ended n = (done, go q refl)
        where
          go : (p : Propagation) → q ≡ p → (s : Solver) → propagation_of s m w' p ≡ Sat.propagate (solver_of s m t₀ w₀)
          go (Propagations.Propagating u) e = absurd (n u e)
          go (Propagations.Complete u) e = (rounds-complete-at u e).1
          go (Propagations.Conflict id u) e = (rounds-conflict-at id u e).1
