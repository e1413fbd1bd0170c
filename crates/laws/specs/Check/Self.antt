-- The self law of the check, under any options: a design against itself from the same start bits, and a record against itself, is Equivalent at depth 1. Assumes nothing.
use Rattle.std.specs.Prelude.{ℕ, suc, ◌≤◌, ◌≡◌, refl, Bool, true, false, List, [], ◌∷◌}
use Rattle.std.proofs.Common.{sym, ap, ◌∙◌}
use Rattle.std.proofs.Math.Option.{none}
use Rattle.model.specs.Answers as Answers
use Rattle.model.specs.Options.{Options, first_query}
use Rattle.model.specs.Names.{Name, same_name, member_name}
use Rattle.model.specs.Netlist.{Node, Register, Design}
use Rattle.model.specs.Validate.{nodes_fault, registers_fault, validate}
use Rattle.model.specs.Run.{StoredBits, initial_bits}
use Rattle.model.specs.Pair.{Lent, check_refusal}
use Rattle.model.specs.Induction.{answered, SelfLaw}
use Rattle.model.specs.Equivalence.{Outcome, larger_learned, largest_from, largest_learned}
use Rattle.model.specs.Check.{check_designs, check_outcome, verdict_says, checked}
use Rattle.facts.specs.Bools.{or_left, or_right}
use Rattle.laws.specs.Terms.{outcome_learned, checked_designs}
use Rattle.laws.specs.Record.Accepted.{register-new, otherwise_none, accepted-parsed}
use Rattle.laws.specs.Names.Sorting.{Apart, Distinct, names_by}
use Rattle.laws.specs.Induction.Pairs.{read_pair-both, one-design, Accepted, accepted-pair, depth-positive}
use Rattle.laws.specs.Queries.Self.{register_name, asked_of_self, design-self}
use Rattle.laws.specs.Check.Call.{check_accepts, outcome-is, checked-is}

-- ---- the registers of an accepted design have distinct names

apart_from : (nodes : List Node) (i : ℕ) (names : List Name) (taken : List ℕ) (rs : List Register) → registers_fault nodes i names taken rs ≡ none
    → (n : Name) → ((x : Name) → member_name x names ≡ false → same_name x n ≡ false) → Apart n (names_by register_name rs)
unfolding member_name
apart_from nodes i names taken [] h n f = tt
apart_from nodes i names taken (r ∷ rs) h n f =
    let k = register-new nodes i names taken r rs h in
    (f r.name k.0, apart_from nodes (suc i) (r.name ∷ names) (r.output ∷ taken) rs k.1 n (λ x m. f x (or_right (same_name x r.name) (member_name x names) m)))

distinct_from : (nodes : List Node) (i : ℕ) (names : List Name) (taken : List ℕ) (rs : List Register) → registers_fault nodes i names taken rs ≡ none
    → Distinct (names_by register_name rs)
unfolding member_name
distinct_from nodes i names taken [] h = tt
distinct_from nodes i names taken (r ∷ rs) h =
    let k = register-new nodes i names taken r rs h in (
      apart_from nodes (suc i) (r.name ∷ names) (r.output ∷ taken) rs k.1 r.name (λ x m. or_left (same_name x r.name) (member_name x names) m),
      distinct_from nodes (suc i) (r.name ∷ names) (r.output ∷ taken) rs k.1,
    )

distinct-registers : (d : Design) → validate d ≡ none → Distinct (names_by register_name d.registers)
unfolding validate
distinct-registers d h =
    distinct_from d.nodes 0 [] [] d.registers
    (otherwise_none (registers_fault d.nodes 0 [] [] d.registers) _ (otherwise_none (nodes_fault 0 [] d.nodes) _ h).1).0

-- ---- the law

-- a valid design against itself, from the same start bits: Equivalent at depth 1
pub designs_self : (o : Options) (d : Design) (s : StoredBits) → validate d ≡ none → 1 ≤ o.depth → checked_designs o d d s s ≡ answered Answers.Equivalent 1
unfolding verdict_says
designs_self o d s v l = ap (λ (x : Outcome). verdict_says x.verdict) (design-self o d s l (distinct-registers d v))

idle_largest : (earliest : Bool) → largest_learned (asked_of_self earliest) ≡ record { depth = 1; query = first_query earliest; learned = 0 }
unfolding largest_learned largest_from larger_learned first_query
idle_largest true = refl
idle_largest false = refl

-- and its queries learn nothing
pub designs_self-idle : (o : Options) (d : Design) (s : StoredBits) → validate d ≡ none → 1 ≤ o.depth
    → largest_learned (check_designs o d d s s).asked ≡ record { depth = 1; query = first_query o.earliest; learned = 0 }
designs_self-idle o d s v l = ap (λ (x : Outcome). largest_learned x.asked) (design-self o d s l (distinct-registers d v)) ∙ idle_largest o.earliest

-- a record against itself, where no refusal applies: Equivalent at depth 1
pub check-self-depth : (a : List ℕ) (o : Options) (lent : Lent) → check_refusal a a o lent ≡ none → checked a a o lent ≡ answered Answers.Equivalent 1
check-self-depth a o lent free =
    let k : Accepted a a o lent = accepted-pair a a o lent free in
    let r = read_pair-both a a k.gold k.gate k.pair in
    let same : k.gate ≡ k.gold = one-design a k.gate k.gold r.1 r.0 in
    checked-is a a o lent k.gold k.gate free k.pair
    ∙ ap (λ (g : Design). checked_designs o k.gold g (initial_bits k.gold) (initial_bits g)) same
    ∙ designs_self o k.gold (initial_bits k.gold) (accepted-parsed a k.gold r.0).1 (depth-positive k.gold k.gate o lent k.free)

-- and nothing learned
pub check-self-idle : (a : List ℕ) (o : Options) (lent : Lent) → check_refusal a a o lent ≡ none → outcome_learned (check_outcome a a o lent) ≡ record { depth = 1; query = first_query o.earliest; learned = 0 }
unfolding outcome_learned
check-self-idle a o lent free =
    let k : Accepted a a o lent = accepted-pair a a o lent free in
    let r = read_pair-both a a k.gold k.gate k.pair in
    let same : k.gate ≡ k.gold = one-design a k.gate k.gold r.1 r.0 in
    ap outcome_learned (outcome-is a a o lent k.gold k.gate free k.pair)
    ∙ ap (λ (g : Design). largest_learned (check_designs o k.gold g (initial_bits k.gold) (initial_bits g)).asked) same
    ∙ designs_self-idle o k.gold (initial_bits k.gold) (accepted-parsed a k.gold r.0).1 (depth-positive k.gold k.gate o lent k.free)

-- the self law of the check
pub check-self : SelfLaw checked
check-self a o lent status d e =
    let t : answered status d ≡ answered Answers.Equivalent 1 = sym e ∙ check-self-depth a o lent (check_accepts a a o lent status d e) in
    (let u : status ≡ Answers.Equivalent = cc in u, let u : d ≡ 1 = cc in u)
