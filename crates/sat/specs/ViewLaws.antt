-- The solver that a search's words stand for, as an analysis sees it. Assumes nothing.
use Rattle.std.specs.Prelude.{◌≡◌, refl, List, ℕ, ◌<◌, ◌≤◌, get_or, Float}
use Rattle.std.proofs.Common.{ap, ⊎_elim, lt-ltb, le-ltb}
use Rattle.facts.specs.Numbers.{below}
use Rattle.model.specs.Sat as Sat
use Rattle.assignment.specs.Scores.{scores_of}
use Rattle.assignment.specs.declared.state.Trail.{Trail}
use Rattle.assignment.specs.declared.state.Activity.{Activity}
use Rattle.clauses.specs.Tabulate.{get_or-tabulate, get_or-past}
use Rattle.clauses.specs.Clauses.{clause_at, literals_of, clauses_of}
use Rattle.clauses.specs.State.{solver_of}
use Rattle.clauses.specs.declared.state.Store.{Store}
use Rattle.analysis.specs.Analysis.{literals_at, view_of}
use Rattle.analysis.specs.AnalyzeLaws.{view_alike, analyze-same}

-- the literals of a clause are those that the words hold
clause_literals_lem : (count : ℕ) (w : List ℕ) (id : ℕ) → (get_or (clauses_of count w) id Sat.empty_clause).literals ≡ literals_at count w id
unfolding clauses_of clause_at literals_of literals_at Sat.empty_clause
clause_literals_lem count w id =
    ⊎_elim (λ (h : id < count). rw (lt-ltb id count h) (ap (λ (c : Sat.Clause). c.literals) (get_or-tabulate count (clause_at w) id Sat.empty_clause h)))
    (λ (h : count ≤ id). rw (le-ltb id count h) (ap (λ (c : Sat.Clause). c.literals) (get_or-past count (clause_at w) id Sat.empty_clause h)))
    (below id count)

-- the analysis of the solver is that of its view
pub analysis_of_lem : (s : Sat.Solver) (m : Store) (t : Trail) (a : Activity) (w : List ℕ) (x : List Float) → s.scores ≡ scores_of t.variables a x → (id : ℕ)
    → Sat.analyze (solver_of s m t w) id ≡ Sat.analyze (view_of m.clauses t a w x) id
unfolding solver_of
analysis_of_lem s m t a w x e id =
    analyze-same (solver_of s m t w) (view_of m.clauses t a w x) (view_alike m.clauses t a w x (solver_of s m t w) refl e (clause_literals_lem m.clauses w)) id
