-- What a graph handed over as words stands for, and what its search answers. Definitions only.
use Rattle.std.specs.Prelude.{◌≡◌, Bool, true, ◌&&◌, cond, List, [], ◌∷◌, ℕ, zero, suc, ◌+◌, ◌*◌, ◌/◌, ◌%◌, ◌≤◌, ◌<◌, length, get_or, eqb, leb, ltb, Float}
use Rattle.std.proofs.Math.Option.{Option, none, some}
use Rattle.words.specs.Layout.{LENT, MOST-NODES, MOST-LEARNED}
use Rattle.model.specs.Aig.{Aig, new, variable, and}
use Rattle.model.specs.Sat as Sat
use Rattle.laws.specs.Graph.Operations.{Formed}
use Rattle.aig.specs.Graph.{graph_of}
use Rattle.aig.specs.Made.{Ready}
use Rattle.assignment.specs.State.{model_of}
use Rattle.sat.specs.SolveLaws.{search_answer}
use Rattle.sat.specs.declared.state.Answer.{Answer}
use Rattle.solver.specs.declared.SolveAnswer.{SolveAnswer}
use Rattle.std.specs.Prelude as Std
use Rattle.aig.specs.declared.Aig.{Aig as Counted}

-- ---- what is asked

-- a graph with one node more: a variable for two zeros, else the conjunction of the two literals
unfoldable pub with_node : Aig → ℕ → ℕ → Aig
with_node g l r = cond (eqb l 0 && eqb r 0) (variable g).aig (and g l r).aig

-- the same where both literals are of the graph's nodes
unfoldable pub extended : Option Aig → ℕ → ℕ → Option Aig
extended none l r = none
extended (some g) l r = cond (ltb l (length g * 2) && ltb r (length g * 2)) (some (with_node g l r)) none

-- the graph of the first n pairs of literals; none where a literal is of no earlier node
unfoldable pub rebuilt : ℕ → List ℕ → Option Aig
rebuilt zero ls = some new
rebuilt (suc n) ls = extended (rebuilt n ls) (get_or ls (n * 2) 0) (get_or ls (n * 2 + 1) 0)

-- whether every literal is below a bound
unfoldable pub all_below : ℕ → List ℕ → Bool
all_below b [] = true
all_below b (l ∷ ls) = ltb l b && all_below b ls

-- whether the list of nodes is even, and the lengths and the limit are within what the search takes
unfoldable pub within : ℕ → ℕ → ℕ → ℕ → ℕ → Bool
within nodes assumptions limit words scores =
    eqb (nodes % 2) 0 && (leb nodes 131070 && (leb assumptions 65535 && (leb limit MOST-LEARNED && (leb LENT words && leb MOST-NODES scores))))

-- the same as facts
pub record Fits (nodes assumptions limit words scores : ℕ) : Type 0 where
  pub even : nodes % 2 ≡ 0
  pub nodes_few : nodes ≤ 131070
  pub assumptions_few : assumptions ≤ 65535
  pub limited : limit ≤ MOST-LEARNED
  pub words_long : LENT ≤ words
  pub scores_long : MOST-NODES ≤ scores

-- the search of a graph whose assumptions are its literals
unfoldable pub searched : ℕ → List ℕ → Option Aig → Option Sat.Answer
searched limit assumptions none = none
searched limit assumptions (some g) = cond (all_below (length g * 2) assumptions) (some (Sat.solve limit g assumptions)) none

-- what a call answers; none where it is refused
unfoldable pub answer : ℕ → List ℕ → List ℕ → ℕ → ℕ → Option Sat.Answer
answer limit nodes assumptions words scores =
    cond (within (length nodes) (length assumptions) limit words scores) (searched limit assumptions (rebuilt (length nodes / 2) nodes)) none

-- how many nodes a graph has; none has none
abbrev pub size_of : Option Aig → ℕ
size_of none = 0
size_of (some g) = length g

-- the size of a list's graph
unfoldable pub size : List ℕ → ℕ → ℕ
size nodes words = cond (within (length nodes) 0 0 words MOST-NODES) (size_of (rebuilt (length nodes / 2) nodes)) 0

-- ---- what is answered

-- an answer by its numbers: 0 a model, whose values stand in the words; 1 none; 2 it gave up; 3 the call was refused
unfoldable pub status_of : ℕ → ℕ → ℕ → List ℕ → Option Sat.Answer
status_of zero n total w = some (Sat.model (model_of n w) total)
status_of (suc zero) n total w = some (Sat.no_model total)
status_of (suc (suc zero)) n total w = some (Sat.gave_up total)
status_of (suc (suc (suc k))) n total w = none

-- what a call's numbers and words answer
abbrev pub answered : SolveAnswer → List ℕ → Option Sat.Answer
answered r w = status_of r.status r.nodes r.total w

-- ---- the graph in the words

-- the words hold a graph of n nodes as the search asks it
pub record Standing (n : ℕ) (w : List ℕ) : Type 0 where
  pub ready : Ready n w
  pub formed : Formed (graph_of n w)

-- what `with_node` asks
pub record Extendable (n : ℕ) (w : List ℕ) (l r : ℕ) : Type 0 where
  pub standing : Standing n w
  pub room : n + 1 ≤ MOST-NODES
  pub lhs : l < n * 2
  pub rhs : r < n * 2

-- of `with_node`
pub record Extends (n : ℕ) (w : List ℕ) (l r n' : ℕ) (w' : List ℕ) : Type 0 where
  pub is : graph_of n' w' ≡ with_node (graph_of n w) l r
  pub standing : Standing n' w'
  pub few : n' ≤ n + 1
  pub long : LENT ≤ length w'

-- the graph that was rebuilt
abbrev pub rebuilt_of : Std.Option Counted → List ℕ → Option Aig
rebuilt_of (Std.Some a) w = some (graph_of a.count w)
rebuilt_of Std.None w = none

-- it stands in the words
abbrev pub StandingIn : Std.Option Counted → List ℕ → Type 0
StandingIn (Std.Some a) w = Standing a.count w × (a.count ≤ MOST-NODES)
StandingIn Std.None w = Unit {0}

-- of `rebuild`
pub record Rebuilding (count : ℕ) (ls : List ℕ) (r : Std.Option Counted) (w' : List ℕ) : Type 0 where
  pub is : rebuilt_of r w' ≡ rebuilt count ls
  pub standing : StandingIn r w'
  pub long : LENT ≤ length w'

-- what `search_graph` asks
pub record Searchable (limit n : ℕ) (w : List ℕ) (x : List Float) (assumptions : List ℕ) : Type 0 where
  pub standing : Standing n w
  pub few : n ≤ MOST-NODES
  pub scores : MOST-NODES ≤ length x
  pub assumed : length assumptions ≤ 65535
  pub limited : limit ≤ MOST-LEARNED

-- of `numbers`
pub record Numbered (a : Answer) (n : ℕ) (r : SolveAnswer) : Type 0 where
  pub is : (w : List ℕ) → answered r w ≡ some (search_answer n a w)
