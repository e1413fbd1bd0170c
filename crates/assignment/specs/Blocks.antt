-- The choice among the unassigned variables of a range, what the words of the blocks of variables say of it, and what the functions over them promise. Definitions only.
use Rattle.std.specs.Prelude.{◌≡◌, true, false, cond, List, [], ◌∷◌, ℕ, zero, suc, ◌+◌, ◌-◌, ◌*◌, ◌/◌, ◌<◌, ◌≤◌, min, max, get_or, take, drop, Float, Option}
use Rattle.std.specs.Float.{nan}
use Rattle.std.specs.Float.Ieee.{lt}
use Rattle.facts.specs.Floats.{unsigned}
use Rattle.words.specs.Layout.{BLOCK, BLOCKS}
use Rattle.words.specs.Region.{region}
use Rattle.model.specs.Sat as Sat
use Rattle.assignment.specs.State.{assignment_of, assignment_regions, Unchanged, TrailReady}
use Rattle.assignment.specs.Scores.{Bumped, Added, choice_of, one_of}
use Rattle.assignment.specs.declared.state.Activity.{Activity}
use Rattle.assignment.specs.declared.state.Trail.{Trail}

-- ---- the choice

-- the score of a variable
abbrev pub score : List Float → ℕ → Float
score xs v = get_or xs v Sat.score_zero

-- a variable is unassigned
abbrev pub Free : List Sat.Value → ℕ → Type 0
Free vs v = get_or vs v Sat.Unassigned ≡ Sat.Unassigned

-- v is chosen rather than x: its score is higher, or as high and its number is not
pub record Ahead (xs : List Float) (v x : ℕ) : Type 0 where
  pub higher : x < v → lt (score xs x) (score xs v) ≡ true
  pub level : v ≤ x → lt (score xs v) (score xs x) ≡ false

-- v is the choice among the unassigned variables from lo up to hi; 0 where there is none
pub record Leads (vs : List Sat.Value) (xs : List Float) (lo hi v : ℕ) : Type 0 where
  pub own : 0 < v → (lo ≤ v) × (v < hi) × Free vs v
  pub all : (x : ℕ) → lo ≤ x → x < hi → Free vs x → (0 < v) × Ahead xs v x

-- no score is negative or a NaN
abbrev pub Unsigned : List Float → Type 0
Unsigned xs = (v : ℕ) → unsigned (score xs v) ≡ true

-- ---- the blocks

-- the first variable of block b; variable 0 is never chosen
abbrev pub first_of : ℕ → ℕ
first_of b = max 1 (b * BLOCK)

-- the end of block b of n variables
abbrev pub end_of : ℕ → ℕ → ℕ
end_of n b = min n (b * BLOCK + BLOCK)

-- a block's word is 0, or one more than its choice, as long as that one is unassigned
pub record Known (n : ℕ) (vs : List Sat.Value) (xs : List Float) (words : List ℕ) : Type 0 where
  pub inside : (b : ℕ) → b * BLOCK < n → 1 < get_or words b 0 → ((get_or words b 0 - 1) / BLOCK ≡ b) × (get_or words b 0 ≤ n)
  pub leads : (b : ℕ) → b * BLOCK < n → 0 < get_or words b 0 → (1 < get_or words b 0 → Free vs (get_or words b 0 - 1)) → Leads vs xs (first_of b) (end_of n b) (get_or words b 0 - 1)

-- ---- in lent words and scores

-- the words of the blocks are true of the assignment and the scores
abbrev pub KnownIn : Trail → List ℕ → List Float → Type 0
KnownIn t w s = Known t.variables (assignment_of t w).assignments (take t.variables s) (region BLOCKS w)

-- and the scores and the increment are ordered
pub record Cached (t : Trail) (w : List ℕ) (a : Activity) (s : List Float) : Type 0 where
  pub known : KnownIn t w s
  pub scores : Unsigned (take t.variables s)
  pub increment : unsigned a.increment ≡ true

-- no variable is unassigned that was assigned
abbrev pub Grown : Trail → List ℕ → Trail → List ℕ → Type 0
Grown t w r w' = (x : ℕ) → Free (assignment_of r w').assignments x → Free (assignment_of t w).assignments x

-- the choice of a range, in lent words and scores
abbrev pub LeadsIn : Trail → List ℕ → List Float → ℕ → ℕ → ℕ → Type 0
LeadsIn t w s lo hi v = Leads (assignment_of t w).assignments (take t.variables s) lo hi v

-- ---- what is promised

-- of `forget`: where only the score of v is another, the words of the blocks are true still
pub record Forgets (t : Trail) (w : List ℕ) (v : ℕ) (w' : List ℕ) : Type 0 where
  pub frame : Unchanged (BLOCKS ∷ []) w w'
  pub ready : TrailReady t w'
  pub known : (s s' : List Float) → ((x : ℕ) → (x ≡ v → ⊥) → score (take t.variables s') x ≡ score (take t.variables s) x) → KnownIn t w s → KnownIn t w' s'

-- of `forget_all`: nothing is known, whatever the scores
pub record ForgetsAll (t : Trail) (w w' : List ℕ) : Type 0 where
  pub frame : Unchanged (BLOCKS ∷ []) w w'
  pub ready : TrailReady t w'
  pub known : (s : List Float) → KnownIn t w' s

-- of a function that unassigns: the assignment becomes another one, and the words of the blocks are true of it
pub record Undoes (t : Trail) (w : List ℕ) (a : Sat.Assignment) (r : Trail) (w' : List ℕ) : Type 0 where
  pub is : assignment_of r w' ≡ a
  pub frame : Unchanged (BLOCKS ∷ assignment_regions) w w'
  pub ready : TrailReady r w'
  pub variables : r.variables ≡ t.variables
  pub known : (s : List Float) → KnownIn t w s → KnownIn r w' s

-- of `new`: nothing is known, whatever the scores
pub record News (n : ℕ) (w : List ℕ) (r : Trail) (w' : List ℕ) : Type 0 where
  pub is : assignment_of r w' ≡ (Sat.new n).assignment
  pub frame : Unchanged (BLOCKS ∷ assignment_regions) w w'
  pub ready : TrailReady r w'
  pub variables : r.variables ≡ n
  pub known : (s : List Float) → KnownIn r w' s

-- the choice of two ranges by those of the first and of the second; 0 is none
unfoldable pub higher_of : List Float → ℕ → ℕ → ℕ
higher_of s a zero = a
higher_of s zero (suc b) = suc b
higher_of s (suc a) (suc b) = cond (lt (get_or s (suc a) nan) (get_or s (suc b) nan)) (suc b) (suc a)

-- of `better`: variable v joins a range that ends before it
pub record Betters (t : Trail) (w : List ℕ) (s : List Float) (best v r : ℕ) : Type 0 where
  pub low : r ≤ v
  pub leads : (lo : ℕ) → lo ≤ v → LeadsIn t w s lo v best → LeadsIn t w s lo (v + 1) r

-- what a block's word says is so: it is one more than a choice that is unassigned, if there is one
pub record Current (t : Trail) (w : List ℕ) (k : ℕ) : Type 0 where
  pub some : 0 < k
  pub free : 1 < k → Free (assignment_of t w).assignments (k - 1)

-- of `block_choice`
pub record BlockChosen (t : Trail) (w : List ℕ) (s : List Float) (b r : ℕ) (w' : List ℕ) : Type 0 where
  pub leads : LeadsIn t w s (first_of b) (end_of t.variables b) r
  pub frame : Unchanged (BLOCKS ∷ []) w w'
  pub ready : TrailReady t w'
  pub known : KnownIn t w' s

-- of `choose_variable`
pub record Chooses (t : Trail) (w : List ℕ) (s : List Float) (r : Option ℕ) (w' : List ℕ) : Type 0 where
  pub is : choice_of (take t.variables s) r
      ≡ Sat.choose_from 1 (drop 1 (assignment_of t w).assignments) (drop 1 (take t.variables s)) Sat.no_choice
  pub below : one_of t.variables r
  pub frame : Unchanged (BLOCKS ∷ []) w w'
  pub ready : TrailReady t w'
  pub known : KnownIn t w' s

-- of `bump_activity`
pub record Bumps (t : Trail) (a : Activity) (v : ℕ) (w : List ℕ) (s : List Float) (r : Activity) (w' : List ℕ) (s' : List Float) : Type 0 where
  pub scores : Bumped t.variables a v s r s'
  pub frame : Unchanged (BLOCKS ∷ []) w w'
  pub ready : TrailReady t w'
  pub cached : Cached t w a s → Cached t w' r s'

-- of `add_ones`
pub record AddsOnes (t : Trail) (ls : List ℕ) (w : List ℕ) (s : List Float) (w' : List ℕ) (s' : List Float) : Type 0 where
  pub scores : Added t.variables ls s s'
  pub frame : Unchanged (BLOCKS ∷ []) w w'
  pub ready : TrailReady t w'
  pub cached : (a : Activity) → Cached t w a s → Cached t w' a s'
