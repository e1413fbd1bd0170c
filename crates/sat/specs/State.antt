-- What a search's state and words stand for: the definition's solver and search; what holds between rounds; and what the functions of a round promise. Definitions only.
use Rattle.std.specs.Prelude.{◌≡◌, false, List, [], ◌∷◌, ℕ, suc, ◌+◌, ◌*◌, ◌<◌, ◌≤◌, length, Float}
use Rattle.words.specs.Layout.{MOST-NODES, MOST-LEARNED, SEEN, LEARNED}
use Rattle.model.specs.Literal.{Literal}
use Rattle.model.specs.Aig.{Aig}
use Rattle.model.specs.Sat as Sat
use Rattle.laws.specs.Search.State.{Idle, Stuck, Conflicting}
use Rattle.assignment.specs.State.{model_of, Unchanged}
use Rattle.assignment.specs.Scores.{scores_of, Fixed, Others}
use Rattle.assignment.specs.Blocks.{Cached}
use Rattle.clauses.specs.State.{solver_of, SoundStore, encode_regions}
use Rattle.analysis.specs.Analysis.{Unmarked}
use Rattle.sat.specs.LearnLaws.{learned_clause, Learnable}
use Rattle.sat.specs.declared.state.State.{State}
use Rattle.sat.specs.declared.state.Answer.{Answer}
use Rattle.sat.specs.declared.state.Answer.TheVariants as Answers
use Rattle.std.specs.declared.ops.ControlFlow.{ControlFlow}
use Rattle.std.specs.declared.ops.ControlFlow.TheVariants.{Continue, Break}

-- ---- THE ABSTRACTION

-- the part of the solver that is in no lent word
unfoldable pub base_of : State → List Float → Sat.Solver
base_of s x =
    record {
      clauses = [];
      watches = [];
      assignment = (Sat.new 0).assignment;
      scores = scores_of s.trail.variables s.activity x;
      inconsistent = false;
      learned = s.learned;
    }

-- the definition's solver
unfoldable pub state_of : State → List ℕ → List Float → Sat.Solver
state_of s w x = solver_of (base_of s x) s.store s.trail w

-- the definition's answer, with the values of n variables
abbrev pub search_answer : ℕ → Answer → List ℕ → Sat.Answer
search_answer n (Answers.Model k) w = Sat.model (model_of n w) k
search_answer n (Answers.NoModel k) w = Sat.no_model k
search_answer n (Answers.GaveUp k) w = Sat.gave_up k

-- the definition's search after a round
abbrev pub step_of : ℕ → ControlFlow Answer State → List ℕ → List Float → Sat.Search
step_of n (Continue s) w x = Sat.searching (state_of s w x)
step_of n (Break a) w x = Sat.answered (search_answer n a w)

-- ---- what holds throughout

-- the words and the scores are sound, and what may still be learned within the limit fits the layout; a node gives at most 3 clauses of 7 literals together, an assumption one of one
pub record Fits (limit : ℕ) (s : State) (w : List ℕ) (x : List Float) : Type 0 where
  pub sound : SoundStore s.store s.trail w []
  pub scores : s.trail.variables ≤ length x
  pub fixed : Fixed s.activity
  pub limited : limit ≤ MOST-LEARNED
  pub total : s.learned ≤ limit
  pub clauses : s.store.clauses < 4 * MOST-NODES + s.learned
  pub literals : s.store.literals ≤ 8 * MOST-NODES + s.learned
  pub cached : Cached s.trail w s.activity x

-- no mark of an analysis is above k: with as many clauses, the next conflict's stamp is above all
abbrev pub Marks : ℕ → State → List ℕ → Type 0
Marks k s w = Unmarked k s.trail.variables w

-- between rounds: the invariant of the search of a graph and its assumptions
pub record Going (limit : ℕ) (s : State) (w : List ℕ) (x : List Float) : Type 0 where
  pub fits : Fits limit s w x
  pub marks : Marks s.store.clauses s w
  pub graph : Aig
  pub assumptions : List Literal
  pub size : length graph ≡ s.trail.variables
  pub idle : Idle (length graph) (Sat.encode graph assumptions).clauses (state_of s w x)

-- at a conflict
pub record Stopped (limit : ℕ) (s : State) (w : List ℕ) (x : List Float) (id : ℕ) : Type 0 where
  pub fits : Fits limit s w x
  pub marks : Marks s.store.clauses s w
  pub original : List Sat.Clause
  pub stuck : Stuck s.trail.variables original (state_of s w x)
  pub conflicting : Conflicting (state_of s w x) id stuck.place

-- ---- what is promised

-- the regions that a search writes
abbrev pub solve_regions : List ℕ
solve_regions = SEEN ∷ LEARNED ∷ encode_regions

-- a search that goes on is sound, with the same variables
abbrev pub Next : ℕ → ℕ → ControlFlow Answer State → List ℕ → List Float → Type 0
Next limit n (Continue s) w x = Fits limit s w x × (s.trail.variables ≡ n) × Marks s.store.clauses s w
Next limit n (Break a) w x = Unit {0}

-- the search is what the definition says
pub record Results (limit n : ℕ) (w : List ℕ) (x : List Float) (goal : Sat.Search) (r : ControlFlow Answer State) (w' : List ℕ) (x' : List Float) : Type 0 where
  pub is : step_of n r w' x' ≡ goal
  pub next : Next limit n r w' x'
  pub others : Others n x x'
  pub frame : Unchanged solve_regions w w'

-- what `assert_learned` asks: the clause can be learned, within the limit; the analysis has marked with the number that the clauses will have
pub record Assertable (limit : ℕ) (s : State) (w : List ℕ) (x : List Float) (asserting count : ℕ) : Type 0 where
  pub fits : Fits limit s w x
  pub marks : Marks (s.store.clauses + 1) s w
  pub able : Learnable s.store s.trail w x asserting count
  pub range : asserting < s.trail.variables * 2
  pub within : s.learned + (count + 1) ≤ limit
  pub size : length (learned_clause asserting count w) ≡ suc count
