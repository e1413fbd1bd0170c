-- What a check means: the four queries over the run alone, what k-induction says, and the laws of checks. No graph, no search.
use Rattle.std.specs.Prelude.{ℕ, suc, ◌≤◌, ◌<◌, ◌≡◌, ◌≢◌, ◌⊎◌, ◌↔◌, Bool, true, false, cond, ◌||◌}
use Rattle.std.specs.Bool.{xor}
use mathlib.Core.List.{List, [], ◌∷◌, Memᴰ}
use Rattle.std.proofs.Math.Option.{Option, none, some}
use Rattle.model.specs.Answers.{Refusal, Status, Equivalent, NotEquivalent, Inconclusive, GaveUp}
use Rattle.model.specs.Options.{Options}
use Rattle.model.specs.Names.{Name, Place, same_name, names_of}
use Rattle.model.specs.Netlist.{Design, outputs, registers_by_name}
use Rattle.model.specs.Record.{parsed}
use Rattle.model.specs.Validate.{read_record}
use Rattle.model.specs.Run.{InputSequence, StoredBits, bit_at, stored_at, outputs_at, initial_bits}
use Rattle.model.specs.Pair.{Lent, both, read_pair, check_refusal}
use Rattle.model.specs.Replay.{differ_at}

-- ---- registers named alike

-- the register numbers of gold and of gate
pub record Alike : Type 0 where
  pub gold : ℕ
  pub gate : ℕ

-- one more pair in front, if gate has the name
unfoldable pub alike_if : ℕ → Option ℕ → List Alike → List Alike
alike_if k none rest = rest
alike_if k (some m) rest = record { gold = k; gate = m } ∷ rest

-- the number of the place with this name
unfoldable pub number_of : Name → List Place → Option ℕ
number_of x [] = none
number_of x (p ∷ ps) = let rest = number_of x ps in cond (same_name x p.name) (some p.number) rest

-- the places of ps with the places of qs that have the same name
unfoldable pub alike_in : List Place → List Place → List Alike
alike_in qs [] = []
alike_in qs (p ∷ ps) = alike_if p.number (number_of p.name qs) (alike_in qs ps)

-- the registers that both designs have by name, in byte order of names
unfoldable pub named_alike : Design → Design → List Alike
named_alike gold gate = alike_in (registers_by_name gate) (registers_by_name gold)

-- the stored bits of some pair differ
unfoldable pub stored_differ : List Alike → StoredBits → StoredBits → Bool
stored_differ [] s t = false
stored_differ (p ∷ ps) s t = let rest = stored_differ ps s t in xor (bit_at s p.gold) (bit_at t p.gate) || rest

-- registers named alike differ at the start of a cycle
unfoldable pub named_differ_at : Design → Design → StoredBits → StoredBits → InputSequence → ℕ → Bool
named_differ_at gold gate s t ins c = stored_differ (named_alike gold gate) (stored_at gold s ins c) (stored_at gate t ins c)

-- outputs or registers named alike differ in a cycle
unfoldable pub either_differ_at : Design → Design → StoredBits → StoredBits → InputSequence → ℕ → Bool
either_differ_at gold gate s t ins c = differ_at gold gate s t ins c || named_differ_at gold gate s t ins c

-- ---- the four queries, each as what a yes consists of; s and t are the start bits of gold and gate

-- 1: outputs can differ in cycles 0 to d from the start
pub record Query1 (gold gate : Design) (s t : StoredBits) (d : ℕ) : Type 0 where
  pub ins : InputSequence
  pub cycle : ℕ
  pub within : cycle ≤ d
  pub differ : differ_at gold gate s t ins cycle ≡ true

-- 2: registers named alike can differ there
pub record Query2 (gold gate : Design) (s t : StoredBits) (d : ℕ) : Type 0 where
  pub ins : InputSequence
  pub cycle : ℕ
  pub within : cycle ≤ d
  pub differ : named_differ_at gold gate s t ins cycle ≡ true

-- 3: from free states, those named alike shared, after d cycles equal in outputs and named registers, either can differ in cycle d
pub record Query3 (gold gate : Design) (d : ℕ) : Type 0 where
  pub s : StoredBits
  pub t : StoredBits
  pub ins : InputSequence
  pub shared : stored_differ (named_alike gold gate) s t ≡ false
  pub equal : (c : ℕ) → c < d → either_differ_at gold gate s t ins c ≡ false
  pub differ : either_differ_at gold gate s t ins d ≡ true

-- 4: the same by outputs alone, from unshared free states
pub record Query4 (gold gate : Design) (d : ℕ) : Type 0 where
  pub s : StoredBits
  pub t : StoredBits
  pub ins : InputSequence
  pub equal : (c : ℕ) → c < d → differ_at gold gate s t ins c ≡ false
  pub differ : differ_at gold gate s t ins d ≡ true

-- ---- what k-induction says

-- induction closes at depth d: no to 2 and 3, or no to 4
abbrev pub Closes : Design → Design → StoredBits → StoredBits → ℕ → Type 0
Closes gold gate s t d = ((¬ Query2 gold gate s t d) × (¬ Query3 gold gate d)) ⊎ (¬ Query4 gold gate d)

-- depth d gives no verdict: no to 1, and induction does not close
pub record Undecided (gold gate : Design) (s t : StoredBits) (d : ℕ) : Type 0 where
  pub same : ¬ Query1 gold gate s t d
  pub open_ended : ¬ Closes gold gate s t d

-- no depth from 1 to below d gives a verdict
abbrev pub UndecidedBelow : Design → Design → StoredBits → StoredBits → ℕ → Type 0
UndecidedBelow gold gate s t d = (e : ℕ) → 1 ≤ e → e < d → Undecided gold gate s t e

-- k-induction to maximum depth D, from the start bits s and t, says this status at this depth
pub data Says (gold gate : Design) (s t : StoredBits) (D : ℕ) : Status → ℕ → Type 0 where
  not_equivalent : {d : ℕ} → 1 ≤ d → d ≤ D → UndecidedBelow gold gate s t d → Query1 gold gate s t d → Says gold gate s t D NotEquivalent d
  equivalent : {d : ℕ} → 1 ≤ d → d ≤ D → UndecidedBelow gold gate s t d → ¬ Query1 gold gate s t d → Closes gold gate s t d → Says gold gate s t D Equivalent d
  inconclusive : UndecidedBelow gold gate s t (suc D) → Says gold gate s t D Inconclusive D

-- ---- statements; they are proved where the check is

-- a design and the bits that its registers start with
pub record Begun : Type 0 where
  pub design : Design
  pub start : StoredBits

-- a design in its initial state
unfoldable pub initially : Design → Begun
initially d = record { design = d; start = initial_bits d }

-- same output names, and the same output bits in every cycle on every input sequence, each design from its own start bits
pub record SameOutputs (a b : Begun) : Type 0 where
  pub names : names_of (outputs a.design) ≡ names_of (outputs b.design)
  pub bits : (ins : InputSequence) (c : ℕ) → outputs_at a.design a.start ins c ≡ outputs_at b.design b.start ins c

-- a list of two or more in which each two neighbours are linked
pub data Chain {A : Type 0} (Link : A → A → Type 0) : List A → Type 0 where
  two : {a b : A} → Link a b → Chain Link (a ∷ b ∷ [])
  more : {a b c : A} {rest : List A} → Link a b → Chain Link (b ∷ c ∷ rest) → Chain Link (a ∷ b ∷ c ∷ rest)

-- k-induction is sound: Equivalent at some depth means that no cycle differs
abbrev pub InductionSound : Type 0
InductionSound =
    (gold gate : Design) (s t : StoredBits) (D d : ℕ) → Says gold gate s t D Equivalent d
    → (ins : InputSequence) (c : ℕ) → differ_at gold gate s t ins c ≡ false

-- for D of 1 or more, NotEquivalent is said exactly when outputs can differ in cycles 0 to D
abbrev pub DifferenceFound : Type 0
DifferenceFound =
    (gold gate : Design) (s t : StoredBits) (D d : ℕ) (status : Status) → 1 ≤ D → Says gold gate s t D status d
    → (status ≡ NotEquivalent) ↔ Query1 gold gate s t D

-- what a check answers, without its trace: a refusal, or a status and a depth; unfinished is a search out of its rounds
pub data Verdict : Type 0 where
  refused : Refusal → Verdict
  answered : Status → ℕ → Verdict
  unfinished : Verdict

-- a check of two records under a caller's options, with buffers of the given lengths
abbrev pub Check : Type 0
Check = List ℕ → List ℕ → Options → Lent → Verdict

-- a check is answered only where no refusal applies
abbrev pub Accepts : Check → Type 0
Accepts check =
    (a b : List ℕ) (o : Options) (lent : Lent) (status : Status) (d : ℕ) → check a b o lent ≡ answered status d → check_refusal a b o lent ≡ none

-- a check is refused exactly where a refusal applies, with the first that does
abbrev pub Refuses : Check → Type 0
Refuses check = (a b : List ℕ) (o : Options) (lent : Lent) (r : Refusal) → (check a b o lent ≡ refused r) ↔ (check_refusal a b o lent ≡ some r)

-- a status other than GaveUp is what k-induction says from the initial states
abbrev pub Sound : Check → Type 0
Sound check =
    (a b : List ℕ) (o : Options) (lent : Lent) (status : Status) (d : ℕ) → check a b o lent ≡ answered status d → status ≢ GaveUp
    → (gold gate : Design) → read_pair a b ≡ both gold gate → Says gold gate (initial_bits gold) (initial_bits gate) o.depth status d

-- two records were checked with the verdict Equivalent, either of them as gold, under options and with memory of the check's own
pub data Checked (check : Check) (a b : List ℕ) : Type 0 where
  gold_first : (o : Options) (lent : Lent) (d : ℕ) → check a b o lent ≡ answered Equivalent d → Checked check a b
  gate_first : (o : Options) (lent : Lent) (d : ℕ) → check b a o lent ≡ answered Equivalent d → Checked check a b

-- what holds of any two records of a chain: both are accepted, show the same outputs, and no check says NotEquivalent
pub record Joined (check : Check) (a b : List ℕ) : Type 0 where
  pub gold : Design
  pub gate : Design
  pub gold_read : read_record a ≡ parsed gold
  pub gate_read : read_record b ≡ parsed gate
  pub same : SameOutputs (initially gold) (initially gate)
  pub never : (o : Options) (lent : Lent) (d : ℕ) → check a b o lent ≢ answered NotEquivalent d

-- the chain law, for lists of any length
abbrev pub ChainLaw : Check → Type 0
ChainLaw check = (l : List (List ℕ)) → Chain (Checked check) l → (a b : List ℕ) → Memᴰ a l → Memᴰ b l → Joined check a b

-- the swap law: verdict and depth stay where neither check gives up, and one is refused exactly when the other is
pub record SwapLaw (check : Check) : Type 0 where
  pub verdict : (a b : List ℕ) (o : Options) (lent : Lent) (p q : Status) (d e : ℕ) → check a b o lent ≡ answered p d → check b a o lent ≡ answered q e → p ≢ GaveUp → q ≢ GaveUp → (p ≡ q) × (d ≡ e)
  pub refusal : (a b : List ℕ) (o : Options) (lent : Lent) (r : Refusal) → check a b o lent ≡ refused r → (q : Refusal) × (check b a o lent ≡ refused q)

-- the self law: a record against itself, not refused, is Equivalent at depth 1
abbrev pub SelfLaw : Check → Type 0
SelfLaw check = (a : List ℕ) (o : Options) (lent : Lent) (status : Status) (d : ℕ) → check a a o lent ≡ answered status d → (status ≡ Equivalent) × (d ≡ 1)

-- naming this opens them all
unfoldable pub all : Unit {0}
unfolding alike_if number_of alike_in named_alike stored_differ named_differ_at either_differ_at initially
all = tt
