-- What the lent words and scores of an analysis stand for: the definition's analysis; and what the functions over them promise. Definitions only.
use Rattle.std.specs.Prelude.{◌≡◌, Bool, false, cond, List, [], ◌∷◌, map, ℕ, zero, suc, ◌+◌, ◌*◌, ◌<◌, ◌≤◌, eqb, ltb, length, get_or, Float}
use Rattle.std.proofs.Math.Seq.{slice}
use Rattle.words.specs.Layout.{LENT, SMALL, POOL, SEEN, TRAIL, LEARNED, BLOCKS, CLAUSE-STARTS, LITERALS}
use Rattle.words.specs.Region.{region}
use Rattle.model.specs.Sat as Sat
use Rattle.assignment.specs.State.{column, assignment_of, Unchanged, TrailReady}
use Rattle.assignment.specs.Scores.{scores_of, Fixed, Others}
use Rattle.assignment.specs.Blocks.{Cached}
use Rattle.assignment.specs.declared.state.Trail.{Trail}
use Rattle.assignment.specs.declared.state.Activity.{Activity}
use Rattle.analysis.specs.declared.state.Analysis.{Analysis}
use Rattle.analysis.specs.declared.state.Analyzed.{Analyzed}
use Rattle.analysis.specs.declared.state.Bounds.{Bounds}

-- ---- the analysis

-- whether a variable's word is the stamp of this analysis
unfoldable pub is_stamp : ℕ → ℕ → Bool
is_stamp stamp x = eqb x stamp

-- the variables that are seen
unfoldable pub seen_of : ℕ → Trail → List ℕ → List Bool
seen_of stamp t w = map (is_stamp stamp) (column t.variables SEEN w)

-- no mark of the first n variables is above k: with a stamp above it nothing is seen
abbrev pub Unmarked : ℕ → ℕ → List ℕ → Type 0
Unmarked k n w = (v : ℕ) → v < n → get_or (region SEEN w) v 0 ≤ k

-- THE ABSTRACTION: the analysis that the numbers, the words and the scores stand for
unfoldable pub analysis_of : Trail → Analysis → List ℕ → List Float → Sat.Analysis
analysis_of t a w s =
    record {
      scores = scores_of t.variables a.activity s;
      seen = seen_of a.stamp t w;
      learned = column a.learned LEARNED w;
      open_at_level = a.open_at_level;
    }

-- the analysis after a literal, which may be skipped
abbrev pub saw : Sat.Assignment → ℕ → Sat.Analysis → ℕ → Sat.Analysis
saw t v a l = Sat.see_unless t a l (Sat.skipped t v a l)

-- ---- what is asked and promised

-- the regions that an analysis writes
abbrev pub analysis_regions : List ℕ
analysis_regions = SEEN ∷ LEARNED ∷ BLOCKS ∷ []

-- the literals of the pool before place `end` are of n variables
abbrev pub PoolBelow : ℕ → ℕ → List ℕ → Type 0
PoolBelow end n w = (i : ℕ) → i < end → get_or (region LITERALS w) i 0 < n * 2

-- those of the first `count` clauses
abbrev pub ClausesBelow : ℕ → ℕ → List ℕ → Type 0
ClausesBelow count n w = (id : ℕ) → id < count → PoolBelow (get_or (region CLAUSE-STARTS w) (id + 1) 0) n w

-- those of the trail
abbrev pub TrailBelow : Trail → List ℕ → Type 0
TrailBelow t w = (i : ℕ) → i < t.length → get_or (region TRAIL w) i 0 < t.variables * 2

-- the literals of the clauses and of the trail are of the variables
pub record Ranged (count : ℕ) (t : Trail) (w : List ℕ) : Type 0 where
  pub some : 0 < t.variables
  pub clauses : ClausesBelow count t.variables w
  pub trail : TrailBelow t w

-- the words, the scores and the numbers are within the layout, with room for one more literal
pub record Able (t : Trail) (a : Analysis) (w : List ℕ) (s : List Float) : Type 0 where
  pub ready : TrailReady t w
  pub scores : t.variables ≤ length s
  pub fixed : Fixed a.activity
  pub room : a.learned < SMALL
  pub few : a.open_at_level < 1152921504606846976
  pub stamped : 0 < a.stamp

-- of a function that makes the analysis another one, with at most `more` more open
pub record Sees (more : ℕ) (t : Trail) (a : Analysis) (w : List ℕ) (s : List Float) (b : Sat.Analysis) (r : Analysis) (w' : List ℕ) (s' : List Float) : Type 0 where
  pub is : analysis_of t r w' s' ≡ b
  pub frame : Unchanged analysis_regions w w'
  pub others : Others t.variables s s'
  pub words : LENT ≤ length w'
  pub fixed : Fixed r.activity
  pub opened : r.open_at_level ≤ a.open_at_level + more
  pub stamp : r.stamp ≡ a.stamp
  pub marks : (k : ℕ) → a.stamp ≤ k → Unmarked k t.variables w → Unmarked k t.variables w'
  pub cached : Cached t w a.activity s → Cached t w' r.activity s'

-- ---- clauses

-- the literals of a clause, by its number; none past the count. They lie in the pool between its start and the next one's.
unfoldable pub literals_at : ℕ → List ℕ → ℕ → List ℕ
literals_at count w id = cond (ltb id count) (slice (get_or (region CLAUSE-STARTS w) id 0) (get_or (region CLAUSE-STARTS w) (id + 1) 0) (region LITERALS w)) []

-- the clauses from number i on, k of them; which places are watched is of no effect on an analysis
unfoldable pub clauses_from : ℕ → ℕ → List ℕ → List Sat.Clause
clauses_from zero i w = []
clauses_from (suc k) i w = record { literals = slice (get_or (region CLAUSE-STARTS w) i 0) (get_or (region CLAUSE-STARTS w) (i + 1) 0) (region LITERALS w); watched = (0, 0) } ∷ clauses_from k (suc i) w

-- the solver as an analysis sees it: the clauses' literals, the assignment and the scores
unfoldable pub view_of : ℕ → Trail → Activity → List ℕ → List Float → Sat.Solver
view_of count t a w s =
    record {
      clauses = clauses_from count 0 w;
      watches = [];
      assignment = assignment_of t w;
      scores = scores_of t.variables a s;
      inconsistent = false;
      learned = 0;
    }

-- of `bounds`
pub record Spans (count : ℕ) (w : List ℕ) (id : ℕ) (r : Bounds) : Type 0 where
  pub is : slice r.start r.end (region LITERALS w) ≡ literals_at count w id
  pub inside : r.end ≤ POOL
  pub below : (n : ℕ) → ClausesBelow count n w → PoolBelow r.end n w

-- ---- rounds

-- of `start`
pub record Begins (activity : Activity) (count : ℕ) (r : Analysis) : Type 0 where
  pub scores : r.activity ≡ activity
  pub learned : r.learned ≡ 0
  pub opened : r.open_at_level ≡ 0
  pub stamp : r.stamp ≡ count + 1

-- of `close_pivot`
pub record Closes (t : Trail) (a : Analysis) (w : List ℕ) (p : ℕ) (r : Analysis) (w' : List ℕ) : Type 0 where
  pub is : (s : List Float) → analysis_of t r w' s ≡ Sat.close_pivot (analysis_of t a w s) p
  pub same : r.activity ≡ a.activity
  pub frame : Unchanged analysis_regions w w'
  pub words : LENT ≤ length w'
  pub opened : r.open_at_level ≤ a.open_at_level
  pub learned : r.learned ≡ a.learned
  pub stamp : r.stamp ≡ a.stamp
  pub marks : (k : ℕ) → Unmarked k t.variables w → Unmarked k t.variables w'
  pub cached : (s : List Float) → Cached t w a.activity s → Cached t w' r.activity s

-- the analysis ended, and what it learned fits its region
abbrev pub Bounded : Sat.Resolution → Type 0
Bounded (Sat.resolving a i id v) = ⊥
Bounded (Sat.resolved a p) = length a.learned < SMALL

-- of `analyze`
pub record Analyzes (count : ℕ) (t : Trail) (activity : Activity) (id : ℕ) (w : List ℕ) (s : List Float) (r : Analyzed) (w' : List ℕ) (s' : List Float) : Type 0 where
  pub is : Sat.resolved (analysis_of t r.analysis w' s') r.pivot.0 ≡ Sat.analyze (view_of count t activity w s) id
  pub frame : Unchanged analysis_regions w w'
  pub others : Others t.variables s s'
  pub words : LENT ≤ length w'
  pub fixed : Fixed r.analysis.activity
  pub room : r.analysis.learned < SMALL
  pub marks : Unmarked (count + 1) t.variables w'
  pub cached : Cached t w activity s → Cached t w' r.analysis.activity s'
