-- What holds of every state of the search of a query, as a caller cites it: sizes, indices in range, counts and the total. Definitions only.
use Rattle.std.specs.Prelude.{ℕ, ◌+◌, ◌*◌, ◌≤◌, ◌<◌, ◌≡◌, List, [], length, get_or}
use Rattle.std.proofs.Math.Option.{none, some}
use Rattle.model.specs.Literal.{Literal}
use Rattle.model.specs.Aig.{Aig}
use Rattle.model.specs.Sat.{Solver, decision_level}
use Rattle.laws.specs.Terms.{literal_count}
use Rattle.facts.specs.Lists.{In}
use Rattle.laws.specs.Search.Clauses.{lits}
use Rattle.laws.specs.Search.Trail.{entry, limit_at}
use Rattle.laws.specs.Search.State.{clause_at, WellWatched}

-- the facts of a state s of the search of the graph g and its assumptions, under a limit of learned literals
pub record Reachable (limit : ℕ) (g : Aig) (assumptions : List Literal) (s : Solver) : Type 0 where
  pub assignments_size : length s.assignment.assignments ≡ length g
  pub levels_size : length s.assignment.levels ≡ length g
  pub reasons_size : length s.assignment.reasons ≡ length g
  pub phases_size : length s.assignment.phases ≡ length g
  pub watches_size : length s.watches ≡ length g * 2
  pub scores_size : length s.scores.activity ≡ length g
  pub trail_short : length s.assignment.trail < length g
  pub head_fits : s.assignment.propagation_head ≤ length s.assignment.trail
  pub levels_fit : decision_level s.assignment ≤ length s.assignment.trail
  pub limits_fit : (i : ℕ) → i < decision_level s.assignment → limit_at s.assignment i < length s.assignment.trail
  pub level_fits : (v : ℕ) → get_or s.assignment.levels v 0 ≤ decision_level s.assignment
  pub trail_literals : (p : ℕ) → p < length s.assignment.trail → entry s.assignment p < length g * 2
  pub clause_literals_lem : (id i : ℕ) → i < length (lits s.clauses id) → get_or (lits s.clauses id) i 0 < length g * 2
  pub watched_places : (id : ℕ) → id < length s.clauses → WellWatched (clause_at s id)
  pub watched_clauses : (l id : ℕ) → In id (get_or s.watches l []) → id < length s.clauses
  pub reason_clauses : (v id : ℕ) → get_or s.assignment.reasons v none ≡ some id → id < length s.clauses
  pub clause_count : length s.clauses ≤ 3 * length g + length assumptions + s.learned
  pub literal_count_lem : literal_count s.clauses ≤ 7 * length g + length assumptions + s.learned
  pub total : s.learned ≤ limit
