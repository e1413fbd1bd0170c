-- What the lent words of a search stand for: the definition's assignment; and what the functions over them promise. Definitions only.
use Rattle.std.specs.Prelude.{◌≡◌, Bool, true, false, ◌&&◌, ◌||◌, cond, List, [], ◌∷◌, map, ℕ, zero, suc, ◌%◌, ◌≤◌, eqb, take, replicate}
use Rattle.std.specs.Prelude as Std
use Rattle.std.proofs.Math.Option.{Option, none, some}
use Rattle.std.proofs.Math.ListN as Lists
use Rattle.words.specs.Layout.{LENT, SMALL, MOST-NODES, VALUES, LEVELS, REASONS, PHASES, TRAIL, LIMITS}
use Rattle.words.specs.Region.{region, apart}
use Rattle.model.specs.Sat as Sat
use Rattle.model.specs.Sat.{Assignment}
use Rattle.assignment.specs.declared.state.Trail.{Trail}

-- ---- words

-- a value's word: 0 unassigned, an odd one true, another even one false
unfoldable pub word_value : ℕ → Sat.Value
word_value zero = Sat.Unassigned
word_value (suc k) = cond (eqb (suc k % 2) 1) Sat.True Sat.False

-- a reason's word: 0 none, else one more than the number of the clause
unfoldable pub word_reason : ℕ → Option ℕ
word_reason zero = none
word_reason (suc id) = some id

-- a mark's word: 0 false
unfoldable pub word_bit : ℕ → Bool
word_bit zero = false
word_bit (suc k) = true

-- ---- the assignment

-- the first n words of a region
abbrev pub column : ℕ → ℕ → List ℕ → List ℕ
column n base w = take n (region base w)

-- THE ABSTRACTION: the assignment that the numbers and the words stand for
unfoldable pub assignment_of : Trail → List ℕ → Assignment
assignment_of t w =
    record {
      assignments = map word_value (column t.variables VALUES w);
      levels = column t.variables LEVELS w;
      reasons = map word_reason (column t.variables REASONS w);
      phases = map word_bit (column t.variables PHASES w);
      trail = column t.length TRAIL w;
      trail_limits = column t.level LIMITS w;
      propagation_head = t.head;
    }

-- the model that the values of n variables are
abbrev pub model_of : ℕ → List ℕ → List Bool
model_of n w = map Sat.is_true (map word_value (column n VALUES w))

-- the definition's value of an answer
abbrev pub value_of : Std.Option Bool → Sat.Value
value_of Std.None = Sat.Unassigned
value_of (Std.Some false) = Sat.False
value_of (Std.Some true) = Sat.True

-- ---- what is asked and promised

-- the region at b shares no word with those listed
abbrev pub apart_from : List ℕ → ℕ → Bool
apart_from [] b = true
apart_from (c ∷ cs) b = apart b c && apart_from cs b

-- the region at c is one of those listed
abbrev pub lists : ℕ → List ℕ → Bool
lists c [] = false
lists c (x ∷ xs) = eqb c x || lists c xs

-- each of the first is one of the second
abbrev pub within : List ℕ → List ℕ → Bool
within [] ys = true
within (x ∷ xs) ys = lists x ys && within xs ys

-- each of the second is apart from all of the first
abbrev pub spares : List ℕ → List ℕ → Bool
spares listed [] = true
spares listed (b ∷ bs) = apart_from listed b && spares listed bs

-- THE FRAME: each region apart from those listed holds what it held
pub record Unchanged (listed : List ℕ) (before after : List ℕ) : Type 0 where
  pub same : (b : ℕ) → apart_from listed b ≡ true → region b after ≡ region b before

-- the regions of the assignment
abbrev pub assignment_regions : List ℕ
assignment_regions = VALUES ∷ LEVELS ∷ REASONS ∷ PHASES ∷ TRAIL ∷ LIMITS ∷ []

-- the words and the numbers are within the layout
pub record TrailReady (t : Trail) (w : List ℕ) : Type 0 where
  pub words : LENT ≤ Lists.length w
  pub variables : t.variables ≤ MOST-NODES
  pub literals : t.length ≤ SMALL
  pub levels : t.level ≤ SMALL

-- of `assign`
pub record Assigns (t : Trail) (w : List ℕ) (l reason : ℕ) (r : Trail) (w' : List ℕ) : Type 0 where
  pub is : assignment_of r w' ≡ Sat.assign (assignment_of t w) l (word_reason reason)
  pub frame : Unchanged assignment_regions w w'
  pub ready : TrailReady r w'
  pub variables : r.variables ≡ t.variables
  pub level : r.level ≡ t.level

-- an answer of `enqueue` as the definition has it
unfoldable pub enqueued : Std.Result Trail Trail → List ℕ → Option Assignment
enqueued (Std.Ok t) w = some (assignment_of t w)
enqueued (Std.Err t) w = none

-- the trail of an answer of `enqueue`, whether the literal is true or false
abbrev pub trail_after : Std.Result Trail Trail → Trail
trail_after (Std.Ok t) = t
trail_after (Std.Err t) = t

-- of a function that makes the assignment another one, for the same variables
pub record Becomes (t : Trail) (w : List ℕ) (a : Assignment) (r : Trail) (w' : List ℕ) : Type 0 where
  pub is : assignment_of r w' ≡ a
  pub frame : Unchanged assignment_regions w w'
  pub ready : TrailReady r w'
  pub variables : r.variables ≡ t.variables

-- the assignment once a variable is decided
unfoldable pub decided : Assignment → ℕ → Assignment
decided a v = Sat.assign (Sat.push_limit a) (Sat.decision a v) none

-- the first n words of a region are 0
pub record Cleared (base n : ℕ) (w w' : List ℕ) : Type 0 where
  pub zeros : column n base w' ≡ replicate n 0
  pub frame : Unchanged (base ∷ []) w w'
  pub words : LENT ≤ Lists.length w'
