-- What a propagation and its pending cells stand for, and what the functions over them promise. Definitions only.
use Rattle.std.specs.Prelude.{◌≡◌, List, [], ◌++◌, map, cond, ℕ, zero, suc, ◌+◌, ◌-◌, ◌*◌, ◌<◌, eqb, get_or, set}
use Rattle.words.specs.Layout.{LINKS}
use Rattle.words.specs.Region.{region}
use Rattle.model.specs.Sat as Sat
use Rattle.model.specs.Sat.{Solver}
use Rattle.assignment.specs.State.{assignment_of, assignment_regions, Unchanged}
use Rattle.assignment.specs.Blocks.{Grown}
use Rattle.assignment.specs.declared.state.Trail.{Trail}
use Rattle.clauses.specs.declared.state.Store.{Store}
use Rattle.clauses.specs.Queue.{walk}
use Rattle.clauses.specs.Clauses.{clauses_of, watches_of, half}
use Rattle.clauses.specs.State.{solver_of, SoundStore, Step, search_regions}
use Rattle.watches.specs.declared.state.Pending.{Pending}
use Rattle.watches.specs.declared.state.Propagation.{Propagation}
use Rattle.watches.specs.declared.state.Propagation.TheVariants as Propagations

-- ---- THE ABSTRACTION

-- the trail of a propagation
abbrev pub trail_of : Propagation → Trail
trail_of (Propagations.Propagating t) = t
trail_of (Propagations.Complete t) = t
trail_of (Propagations.Conflict id t) = t

-- the definition's propagation
abbrev pub propagation_of : Solver → Store → List ℕ → Propagation → Sat.Propagation
propagation_of s m w (Propagations.Propagating t) = Sat.propagating (solver_of s m t w)
propagation_of s m w (Propagations.Complete t) = Sat.complete (solver_of s m t w)
propagation_of s m w (Propagations.Conflict id t) = Sat.conflict id (solver_of s m t w)

-- the cells of a pending part of a queue
unfoldable pub pending_of : Pending → List ℕ → List ℕ
pending_of d w = walk (region LINKS w) d.left d.cell

-- ---- visits of pending cells

-- the slot of f among two watched literals
unfoldable pub slot_by : ℕ → ℕ → ℕ → Sat.Slot
slot_by a b f = cond (eqb a f) Sat.slot0 (cond (eqb b f) Sat.slot1 Sat.neither)

-- of two watched literals the one that is not in slot k
unfoldable pub other_by : ℕ → ℕ → ℕ → ℕ
other_by zero a b = b
other_by (suc k) a b = a

-- the pending cells after the first, whose link is read in the words w
unfoldable pub rest_of : Pending → List ℕ → List ℕ → List ℕ
rest_of d w w' = walk (region LINKS w') (d.left - 1) (get_or (region LINKS w) d.cell 0)

-- what a visit asks: all is sound, with at least one cell pending
pub record Visiting (m : Store) (t : Trail) (w : List ℕ) (d : Pending) : Type 0 where
  pub sound : SoundStore m t w (pending_of d w)
  pub some : 0 < d.left

-- what a visit leaves: the cells after the first are pending still, at the same links
pub record Visits (m : Store) (t : Trail) (w : List ℕ) (d : Pending) (r : Trail) (w' : List ℕ) : Type 0 where
  pub step : Step m t w r w' (rest_of d w w)
  pub same : rest_of d w w' ≡ rest_of d w w

-- ---- pending clauses

-- the solver with clauses at the end of the watch list of f
unfoldable pub appended : ℕ → List ℕ → Solver → Solver
appended f ids s = Sat.with_watches s (set s.watches f (get_or s.watches f [] ++ ids))

-- a queue taken: its cells are pending, none where f is no literal of the variables, and nothing else is changed
pub record Taken (m : Store) (t : Trail) (w : List ℕ) (f : ℕ) (d : Pending) (w' : List ℕ) : Type 0 where
  pub step : Step m t w t w' (pending_of d w')
  pub literal : 0 < d.left → f < t.variables * 2
  pub cells : map half (pending_of d w') ≡ get_or (watches_of t.variables w) f []
  pub watches : watches_of t.variables w' ≡ set (watches_of t.variables w) f []
  pub clauses : clauses_of m.clauses w' ≡ clauses_of m.clauses w
  pub assignment : assignment_of t w' ≡ assignment_of t w

-- ---- rounds

-- the trail with its head one further
abbrev pub advanced : Trail → Trail
advanced t = record { variables = t.variables; length = t.length; head = t.head + 1; level = t.level }

-- a propagation keeps all but the search's words, and leaves the rest sound
pub record Propagates (m : Store) (t : Trail) (w : List ℕ) (r : Trail) (w' : List ℕ) : Type 0 where
  pub frame : Unchanged search_regions w w'
  pub sound : SoundStore m r w' []
  pub variables : r.variables ≡ t.variables
  pub level : r.level ≡ t.level
  pub grows : Grown t w r w'

-- ---- unit clauses

-- a unit enqueued: only the assignment is changed, and the rest is sound
pub record UnitStep (m : Store) (t : Trail) (w : List ℕ) (r : Trail) (w' : List ℕ) : Type 0 where
  pub frame : Unchanged assignment_regions w w'
  pub sound : SoundStore m r w' []
  pub variables : r.variables ≡ t.variables
  pub level : r.level ≡ t.level
  pub head : r.head ≡ t.head
  pub grows : Grown t w r w'
