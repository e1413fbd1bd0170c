-- Laws of clauses where other regions are written: all is sound as before, and the solver is the same. Assumes nothing.
use Rattle.std.specs.Prelude.{◌≡◌, true, List, [], ◌∷◌, ℕ, eqb, length}
use Rattle.std.proofs.Math.Path.{refl}
use Rattle.std.proofs.Common.{arith, eqb-true, ⊎_elim}
use Rattle.facts.specs.Bools.{and_left, and_right, or_cases}
use Rattle.words.specs.Layout.{WATCH-HEADS, WATCH-TAILS, WATCH-COUNTS, CLAUSE-STARTS, WATCHED, LINKS, LITERALS, VALUES, LEVELS, REASONS, PHASES, TRAIL, LIMITS}
use Rattle.words.specs.Region.{region}
use Rattle.model.specs.Sat as Sat
use Rattle.assignment.specs.State.{assignment_of, apart_from, lists, spares, Unchanged}
use Rattle.assignment.specs.declared.state.Trail.{Trail}
use Rattle.clauses.specs.declared.state.Store.{Store}
use Rattle.clauses.specs.Queue.{queues_of}
use Rattle.clauses.specs.Clauses.{same-clauses, same-queues, same-watches}
use Rattle.clauses.specs.State.{solver_of, SoundStore, search_regions, pool_literals, Attachable}
use Rattle.clauses.specs.StepLaws.{formed-kept}

-- a region that is spared is apart from those written
spared : (listed bs : List ℕ) (b : ℕ) → spares listed bs ≡ true → lists b bs ≡ true → apart_from listed b ≡ true
spared listed [] b m e = absurd (let z : ◌≡◌ {A = ℕ} 0 1 = cc e in omega arith)
spared listed (c ∷ bs) b m e =
    ⊎_elim (λ (q : eqb b c ≡ true). rw (eqb-true b c q) (and_left (apart_from listed c) (spares listed bs) m))
    (λ (q : lists b bs ≡ true). spared listed bs b (and_right (apart_from listed c) (spares listed bs) m) q)
    (or_cases (eqb b c) (lists b bs) e)

module _ (listed : List ℕ) (x : spares listed search_regions ≡ true) (m : Store) (t : Trail) (w u : List ℕ) (f : Unchanged listed w u) where
  -- a region of the search holds what it held
  pub kept : (b : ℕ) → lists b search_regions ≡ true → region b u ≡ region b w
  kept b e = f.same b (spared listed search_regions b x e)

  same-assignment : assignment_of t u ≡ assignment_of t w
  unfolding assignment_of
  same-assignment = rw (kept VALUES refl, kept LEVELS refl, kept REASONS refl, kept PHASES refl, kept TRAIL refl, kept LIMITS refl)

  queues-kept : queues_of t.variables u ≡ queues_of t.variables w
  queues-kept = same-queues t.variables u w (kept WATCH-HEADS refl) (kept WATCH-TAILS refl) (kept WATCH-COUNTS refl) (kept LINKS refl)

  pub sound-kept : (p : List ℕ) → length u ≡ length w → SoundStore m t w p → SoundStore m t u p
  sound-kept p l s =
      record {
        formed = formed-kept m t w u s.formed (kept CLAUSE-STARTS refl) (kept WATCHED refl) (kept LITERALS refl) same-assignment l;
        queues = rw queues-kept s.queues;
      }

  pub solver_kept : (s : Sat.Solver) → solver_of s m t u ≡ solver_of s m t w
  unfolding solver_of
  solver_kept s =
      rw (same-clauses m.clauses u w (kept CLAUSE-STARTS refl) (kept WATCHED refl) (kept LITERALS refl), same-watches t.variables u w queues-kept, same-assignment)

  pub pool_kept : (count : ℕ) → pool_literals m count u ≡ pool_literals m count w
  pool_kept count = rw (kept LITERALS refl)

  pub attachable_kept : (count : ℕ) → length u ≡ length w → Attachable m t w count → Attachable m t u count
  attachable_kept count l a =
      record { sound = sound-kept [] l a.sound; clauses = a.clauses; literals = a.literals; some = a.some; range = rw (kept LITERALS refl) a.range; apart = rw (kept LITERALS refl) a.apart }
