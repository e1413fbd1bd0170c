-- What a search's clauses, watch queues and numbers stand for: the definition's solver; what holds of them throughout; and what the functions over them promise. Definitions only.
use Rattle.std.specs.Prelude.{◌≡◌, Bool, true, false, not, ◌&&◌, List, [], ◌∷◌, ◌++◌, ℕ, zero, suc, ◌+◌, ◌*◌, ◌/◌, ◌%◌, ◌<◌, ◌≤◌, eqb, get_or, length, map, take, replicate, Float}
use Rattle.std.specs.Prelude.{Option, Some, None}
use Rattle.std.proofs.Math.Option.{none, some}
use Rattle.std.proofs.Math.Option as Maybe
use Rattle.std.proofs.Math.Seq.{slice}
use Rattle.facts.specs.Floats.{unsigned}
use Rattle.words.specs.Layout.{LENT, STARTS, POOL, MOST-NODES, BLOCKS, GRAPH-LHS, GRAPH-RHS, WATCH-HEADS, WATCH-TAILS, WATCH-COUNTS, CLAUSE-STARTS, WATCHED, LINKS, LITERALS}
use Rattle.words.specs.Region.{region, stored, cleared}
use Rattle.model.specs.Lists.{snoc}
use Rattle.model.specs.Aig.{Node, Constant, Variable, And}
use Rattle.model.specs.Sat as Sat
use Rattle.model.specs.Sat.{Solver}
use Rattle.laws.specs.Search.State.{Apart}
use Rattle.laws.specs.Search.Sorting.{Ascending}
use Rattle.assignment.specs.State.{assignment_of, assignment_regions, TrailReady, Unchanged}
use Rattle.assignment.specs.Scores.{Others}
use Rattle.assignment.specs.Blocks.{Cached, Grown}
use Rattle.assignment.specs.declared.state.Activity.{Activity}
use Rattle.assignment.specs.declared.state.Trail.{Trail}
use Rattle.clauses.specs.declared.state.Store.{Store}
use Rattle.clauses.specs.declared.state.Clause.{Clause}
use Rattle.clauses.specs.declared.state.Encoding.{Encoding}
use Rattle.clauses.specs.declared.state.Encoded.{Encoded}
use Rattle.literals.specs.declared.Literal.{Literal}
use Rattle.clauses.specs.Queue.{queues_of}
use Rattle.clauses.specs.Sound.{SoundQueues}
use Rattle.clauses.specs.Clauses.{clauses_of, watches_of, literals_of, place_in, Stands}

-- ---- THE ABSTRACTION

-- the definition's solver; what is in no lent word comes from s
unfoldable pub solver_of : Solver → Store → Trail → List ℕ → Solver
solver_of s m t w =
    record {
      clauses = clauses_of m.clauses w;
      watches = watches_of t.variables w;
      assignment = assignment_of t w;
      scores = s.scores;
      inconsistent = s.inconsistent;
      learned = s.learned;
    }

-- the literals of a clause that was read
unfoldable pub span_of : Clause → List ℕ → List ℕ
span_of c w = slice c.start c.end (region LITERALS w)

-- the definition's clause of one that was read
unfoldable pub clause_of : Clause → List ℕ → Sat.Clause
clause_of c w = record { literals = span_of c w; watched = (place_in c.first.0 (span_of c w), place_in c.second.0 (span_of c w)) }

-- the definition's place of a spare literal of a clause
abbrev pub place_of : Option Literal → List ℕ → Maybe.Option ℕ
place_of (Some l) ls = some (place_in l.0 ls)
place_of None ls = none

-- a spare literal that was found stands in the clause
abbrev pub SpareStands : Option Literal → List ℕ → Type 0
SpareStands (Some l) ls = Stands l.0 ls
SpareStands None ls = Unit {0}

-- whether a literal is none of the watched ones of a clause
unfoldable pub is_spare : Clause → ℕ → Bool
is_spare c l = not (eqb l c.first.0) && not (eqb l c.second.0)

-- whether a literal of a clause is neither watched nor false
unfoldable pub can_watch : Sat.Assignment → Clause → ℕ → Bool
can_watch t c l = not (eqb l c.first.0) && not (eqb l c.second.0) && Sat.not_false (Sat.value t l)

-- ---- what holds throughout

-- how many variables are unassigned
unfoldable pub unassigned : List Sat.Value → ℕ
unassigned [] = 0
unassigned (Sat.False ∷ vs) = unassigned vs
unassigned (Sat.Unassigned ∷ vs) = suc (unassigned vs)
unassigned (Sat.True ∷ vs) = unassigned vs

-- the literals of each clause are distinct, and its two watched words are literals of it
pub record Watching (m : Store) (w : List ℕ) : Type 0 where
  pub apart : (i : ℕ) → i < m.clauses → Apart (literals_of w i)
  pub first : (i : ℕ) → i < m.clauses → Stands (get_or (region WATCHED w) (i * 2) 0) (literals_of w i)
  pub second : (i : ℕ) → i < m.clauses → Stands (get_or (region WATCHED w) (i * 2 + 1) 0) (literals_of w i)

-- the numbers are within the layout, the clauses end where the next begin, their literals are of the variables, and the trail has room for the unassigned variables
pub record Formed (m : Store) (t : Trail) (w : List ℕ) : Type 0 where
  pub ready : TrailReady t w
  pub some : 0 < t.variables
  pub clauses : m.clauses < STARTS
  pub literals : m.literals ≤ POOL
  pub last : get_or (region CLAUSE-STARTS w) m.clauses 0 ≡ m.literals
  pub within : (i : ℕ) → i ≤ m.clauses → get_or (region CLAUSE-STARTS w) i 0 ≤ m.literals
  pub range : (i : ℕ) → i < m.literals → get_or (region LITERALS w) i 0 < t.variables * 2
  pub watching : Watching m w
  pub room : unassigned (assignment_of t w).assignments + t.length ≤ t.variables

-- and the queues are sound, with the cells p pending
pub record SoundStore (m : Store) (t : Trail) (w : List ℕ) (p : List ℕ) : Type 0 where
  pub formed : Formed m t w
  pub queues : SoundQueues (queues_of t.variables w) (m.clauses * 2) p

-- ---- what is promised

-- the regions of clauses and watch queues
abbrev pub watch_regions : List ℕ
watch_regions = WATCH-HEADS ∷ WATCH-TAILS ∷ WATCH-COUNTS ∷ CLAUSE-STARTS ∷ WATCHED ∷ LINKS ∷ LITERALS ∷ []

-- and the blocks, whose words are forgotten where scores change
abbrev pub add_regions : List ℕ
add_regions = BLOCKS ∷ watch_regions

-- and those of the assignment
abbrev pub search_regions : List ℕ
search_regions = watch_regions ++ assignment_regions

-- all of them
abbrev pub encode_regions : List ℕ
encode_regions = BLOCKS ∷ search_regions

-- a step of a propagation: all but the search's words is unchanged, and with the cells p pending the rest is sound
pub record Step (m : Store) (t : Trail) (w : List ℕ) (r : Trail) (w' : List ℕ) (p : List ℕ) : Type 0 where
  pub frame : Unchanged search_regions w w'
  pub sound : SoundStore m r w' p
  pub variables : r.variables ≡ t.variables
  pub level : r.level ≡ t.level
  pub head : r.head ≡ t.head
  pub grows : Grown t w r w'

-- the slot of a number: 2 and more for neither
unfoldable pub slot_of : ℕ → Sat.Slot
slot_of zero = Sat.slot0
slot_of (suc zero) = Sat.slot1
slot_of (suc (suc k)) = Sat.neither

-- what is asked of a clause whose spare literal is looked for: its literals lie in the pool, are distinct and of the variables, and the watched ones are among them
pub record Watchable (t : Trail) (w : List ℕ) (c : Clause) : Type 0 where
  pub ready : TrailReady t w
  pub inside : c.end ≤ POOL
  pub apart : Apart (span_of c w)
  pub first : Stands c.first.0 (span_of c w)
  pub second : Stands c.second.0 (span_of c w)
  pub range : (i : ℕ) → get_or (span_of c w) i 0 < t.variables * 2

-- the spare literal of a clause is at the definition's place, and stands in the clause
pub record Spares (t : Trail) (w : List ℕ) (c : Clause) (r : Option Literal) : Type 0 where
  pub is : place_of r (span_of c w) ≡ Sat.replacement (assignment_of t w) (clause_of c w)
  pub found : SpareStands r (span_of c w)

-- ---- clauses added

-- the words with the clause id sealed: its literals end at `end`, and it watches the literals a and b
unfoldable pub sealed_words : List ℕ → ℕ → ℕ → ℕ → ℕ → List ℕ
sealed_words w id end a b = stored WATCHED (stored WATCHED (stored CLAUSE-STARTS w (id + 1) end) (id * 2) a) (id * 2 + 1) b

-- the literals that lie in the pool after those of the clauses
abbrev pub pool_literals : Store → ℕ → List ℕ → List ℕ
pool_literals m count w = slice m.literals (m.literals + count) (region LITERALS w)

-- what is asked where `count` literals in the pool are to become a clause: there is room, and they are distinct literals of the variables
pub record Attachable (m : Store) (t : Trail) (w : List ℕ) (count : ℕ) : Type 0 where
  pub sound : SoundStore m t w []
  pub clauses : m.clauses + 1 < STARTS
  pub literals : m.literals + count ≤ POOL
  pub some : 0 < count
  pub range : (i : ℕ) → m.literals ≤ i → i < m.literals + count → get_or (region LITERALS w) i 0 < t.variables * 2
  pub apart : Apart (pool_literals m count w)

-- the solver with a clause more, scores apart
unfoldable pub attached_to : Solver → List ℕ → Solver
attached_to s [] = s
attached_to s (x ∷ xs) =
    record {
      clauses = snoc s.clauses (record { literals = x ∷ xs; watched = (0, Sat.second_place xs) });
      watches = Sat.watch_clause s.watches (length s.clauses) x xs;
      assignment = s.assignment;
      scores = s.scores;
      inconsistent = s.inconsistent;
      learned = s.learned;
    }

-- the clause of these literals is added: all else is unchanged and sound
pub record Attached (m : Store) (t : Trail) (w : List ℕ) (count : ℕ) (m' : Store) (w' : List ℕ) : Type 0 where
  pub frame : Unchanged watch_regions w w'
  pub sound : SoundStore m' t w' []
  pub clauses : m'.clauses ≡ m.clauses + 1
  pub literals : m'.literals ≡ m.literals + count
  pub is : (s : Solver) → solver_of s m' t w' ≡ attached_to (solver_of s m t w) (pool_literals m count w)

-- ---- clauses with their scores

-- the solver s with these scores of n variables
unfoldable pub scored : Solver → ℕ → List Float → Solver
scored s n x =
    record {
      clauses = s.clauses;
      watches = s.watches;
      assignment = s.assignment;
      scores = record { activity = take n x; activity_increment = s.scores.activity_increment };
      inconsistent = s.inconsistent;
      learned = s.learned;
    }

-- whether sorted literals are a clause: there is one, and no two are of one variable
unfoldable pub clean : List ℕ → Bool
clean [] = false
clean (x ∷ xs) = not (Sat.tautological x xs)

-- the clause of the pool's literals is added, with its scores
pub record Added (m : Store) (t : Trail) (w : List ℕ) (x : List Float) (count : ℕ) (m' : Store) (w' : List ℕ) (x' : List Float) : Type 0 where
  pub frame : Unchanged add_regions w w'
  pub sound : SoundStore m' t w' []
  pub clauses : m'.clauses ≡ m.clauses + 1
  pub literals : m'.literals ≡ m.literals + count
  pub others : Others t.variables x x'
  pub is : (s : Solver) → solver_of (scored s t.variables x') m' t w' ≡ Sat.add_sorted (solver_of (scored s t.variables x) m t w) (pool_literals m count w)
  pub cached : (a : Activity) → Cached t w a x → Cached t w' a x'

-- all members are below b
abbrev pub AllBelow : ℕ → List ℕ → Type 0
AllBelow b [] = Unit {0}
AllBelow b (x ∷ xs) = (x < b) × AllBelow b xs

-- a literal put into the pool after `count` others: nothing else is changed
pub record Pooled (m : Store) (t : Trail) (w : List ℕ) (count l : ℕ) (w' : List ℕ) : Type 0 where
  pub frame : Unchanged watch_regions w w'
  pub sound : SoundStore m t w' []
  pub is : (s : Solver) → solver_of s m t w' ≡ solver_of s m t w
  pub literals : pool_literals m (count + 1) w' ≡ snoc (pool_literals m count w) l

-- a clause of these sorted literals is added, with its scores
pub record AddedList (m : Store) (t : Trail) (w : List ℕ) (x : List Float) (ls : List ℕ) (m' : Store) (w' : List ℕ) (x' : List Float) : Type 0 where
  pub frame : Unchanged add_regions w w'
  pub sound : SoundStore m' t w' []
  pub clauses : m'.clauses ≡ m.clauses + 1
  pub literals : m'.literals ≡ m.literals + length ls
  pub others : Others t.variables x x'
  pub is : (s : Solver) → solver_of (scored s t.variables x') m' t w' ≡ Sat.add_sorted (solver_of (scored s t.variables x) m t w) ls
  pub cached : (a : Activity) → Cached t w a x → Cached t w' a x'

-- literals as numbers
abbrev pub numbers : List Literal → List ℕ
numbers ls = map (λ l. l.0) ls

-- sorted literals that can become a clause as they stand: there is one, all are below b, and no two are of one variable
pub record Sorted (b : ℕ) (ls : List ℕ) : Type 0 where
  pub some : 0 < length ls
  pub below : AllBelow b ls
  pub ascending : Ascending ls
  pub clean : clean ls ≡ true

-- all is sound, and there is room for a clause of n literals
pub record Room (m : Store) (t : Trail) (w : List ℕ) (x : List Float) (n : ℕ) : Type 0 where
  pub sound : SoundStore m t w []
  pub clauses : m.clauses + 1 < STARTS
  pub literals : m.literals + n ≤ POOL
  pub scores : t.variables ≤ length x

-- all is sound, and there is room for c clauses of l literals together
pub record Roomy (m : Store) (t : Trail) (w : List ℕ) (x : List Float) (c l : ℕ) : Type 0 where
  pub sound : SoundStore m t w []
  pub clauses : m.clauses + c < STARTS
  pub literals : m.literals + l ≤ POOL
  pub scores : t.variables ≤ length x

-- at most c clauses of l literals together are added
pub record Grows (m : Store) (t : Trail) (w : List ℕ) (x : List Float) (c l : ℕ) (m' : Store) (w' : List ℕ) (x' : List Float) : Type 0 where
  pub frame : Unchanged add_regions w w'
  pub sound : SoundStore m' t w' []
  pub clauses : m'.clauses ≤ m.clauses + c
  pub literals : m'.literals ≤ m.literals + l
  pub others : Others t.variables x x'
  pub cached : (a : Activity) → Cached t w a x → Cached t w' a x'

-- a conjunction whose operands are of variables in ascending order, both before its own
pub record GateOf (t : Trail) (out lhs rhs : ℕ) : Type 0 where
  pub variable : 2 ≤ lhs
  pub ascending : lhs / 2 < rhs / 2
  pub before : rhs / 2 < out / 2
  pub even : out % 2 ≡ 0
  pub within : out < t.variables * 2

-- ---- a graph in lent words

-- the node i of a graph by its two words: a variable where the larger literal is 0
unfoldable pub node_of : ℕ → ℕ → ℕ → Node
node_of i lhs zero = Variable i
node_of i lhs (suc rhs) = And lhs (suc rhs)

-- the node at a place
abbrev pub node_in : List ℕ → ℕ → Node
node_in w i = node_of i (get_or (region GRAPH-LHS w) i 0) (get_or (region GRAPH-RHS w) i 0)

-- the operands of each conjunction are of variables in ascending order, both before its own
pub record Gates (n : ℕ) (w : List ℕ) : Type 0 where
  pub at : (i : ℕ) → 0 < i → i < n → 0 < get_or (region GRAPH-RHS w) i 0
      → (2 ≤ get_or (region GRAPH-LHS w) i 0) × (get_or (region GRAPH-LHS w) i 0 / 2 < get_or (region GRAPH-RHS w) i 0 / 2) × (get_or (region GRAPH-RHS w) i 0 / 2 < i)

-- a graph is the one that the words hold, node 0 apart
pub record Holds (n : ℕ) (w : List ℕ) (g : List Node) : Type 0 where
  pub size : length g ≡ n
  pub at : (i : ℕ) → 0 < i → i < n → get_or g i Constant ≡ node_in w i

-- ---- the start

-- the words with the counts of the queues of n variables 0, and with no clause
unfoldable pub cleared_words : ℕ → List ℕ → List ℕ
cleared_words n w = stored CLAUSE-STARTS (cleared WATCH-COUNTS w (n * 2)) 0 0

-- no clause and no watch: with an assignment of n variables whose trail has room for the unassigned ones all is sound
pub record Cleared (n : ℕ) (w : List ℕ) (m : Store) (w' : List ℕ) : Type 0 where
  pub frame : Unchanged watch_regions w w'
  pub clauses : m.clauses ≡ 0
  pub literals : m.literals ≡ 0
  pub none : clauses_of m.clauses w' ≡ []
  pub watches : watches_of n w' ≡ replicate (n * 2) []
  pub assignment : (t : Trail) → assignment_of t w' ≡ assignment_of t w
  pub sound : (t : Trail) → t.variables ≡ n → TrailReady t w → 0 < t.variables → unassigned (assignment_of t w).assignments + t.length ≤ t.variables → SoundStore m t w' []

-- ---- assumptions

-- the solver s, inconsistent or not
unfoldable pub flagged : Solver → Bool → Solver
flagged s b =
    record { clauses = s.clauses; watches = s.watches; assignment = s.assignment; scores = s.scores; inconsistent = b; learned = s.learned }

-- the definition's solver of an encoding and the scores of its variables
unfoldable pub encoded_of : Solver → Encoding → Trail → List ℕ → List Float → Solver
unfolding solver_of flagged scored
encoded_of s e t w x = solver_of (flagged (scored s t.variables x) e.inconsistent) e.store t w

-- what is asked of a graph of n nodes and its assumptions
pub record Encodable (n : ℕ) (w : List ℕ) (x : List Float) (ls : List ℕ) (count : ℕ) : Type 0 where
  pub words : LENT ≤ length w
  pub some : 0 < n
  pub variables : n ≤ MOST-NODES
  pub scores : n ≤ length x
  pub gates : Gates n w
  pub listed : count ≤ length ls
  pub few : count ≤ MOST-NODES
  pub range : (i : ℕ) → i < count → get_or ls i 0 < n * 2

-- the clauses of a graph and its assumptions, whatever the words and scores held before
pub record Encodes (n : ℕ) (w : List ℕ) (x : List Float) (ls : List ℕ) (count : ℕ) (r : Encoded) (w' : List ℕ) (x' : List Float) : Type 0 where
  pub frame : Unchanged encode_regions w w'
  pub sound : SoundStore r.encoding.store r.trail w' []
  pub variables : r.trail.variables ≡ n
  pub clauses : r.encoding.store.clauses ≤ 3 * n + count
  pub literals : r.encoding.store.literals ≤ 7 * n + count
  pub others : Others n x x'
  pub is : (g : List Node) → Holds n w g → encoded_of (Sat.new n) r.encoding r.trail w' x' ≡ Sat.encode g (take count ls)
  pub cached : (a : Activity) → unsigned a.increment ≡ true → Cached r.trail w' a x'
