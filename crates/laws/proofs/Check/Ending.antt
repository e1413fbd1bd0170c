-- The check always ends with an answer: no query runs out of rounds, so a check is refused or answered with a status and a depth. Assumes nothing.
use Rattle.std.specs.Prelude.{ℕ, ◌≡◌, refl, Bool, List}
use Rattle.std.proofs.Common.{◌∙◌}
use Rattle.std.proofs.Math.Option.{none}
use Rattle.model.specs.Answers.{Status}
use Rattle.model.specs.Answers as Answers
use Rattle.model.specs.Options.{Options}
use Rattle.model.specs.Netlist.{Design}
use Rattle.model.specs.Run.{StoredBits, initial_bits}
use Rattle.model.specs.Pair.{Lent, check_refusal}
use Rattle.model.specs.Induction.{answered}
use Rattle.model.specs.Equivalence.{Problem, Verdict, Equivalent, NotEquivalent, Inconclusive, GaveUp, OutOfFuel, not_equivalent_at}
use Rattle.model.specs.Check.{problem_of, check_designs, verdict_says, checked}
use Rattle.laws.specs.Terms.{checked_designs}
use Rattle.laws.specs.Induction.Pairs.{Accepted, accepted-pair}
use Rattle.laws.specs.Check.Call.{checked-is}
use Rattle.laws.proofs.Check.Course.{Decides, differs, closes_named, closes, stops, Decides0, differs_0, stops_0, Course, decides_0, decides, passes, verdict_course}

-- the verdict is not that a search ran out of rounds
abbrev Ends : Verdict → Type 0
Ends (Equivalent d) = Unit {0}
Ends (NotEquivalent d m bytes) = Unit {0}
Ends (Inconclusive d) = Unit {0}
Ends (GaveUp d q) = Unit {0}
Ends OutOfFuel = ⊥

decided-ends : (limit : ℕ) (p : Problem) (d : ℕ) (v : Verdict) → Decides limit p d v → Ends v
unfolding not_equivalent_at
decided-ends limit p d v (differs values n e) = tt
decided-ends limit p d v (closes_named f s x) = tt
decided-ends limit p d v (closes f s x) = tt
decided-ends limit p d v (stops s) = tt

decided_0_ends : (limit : ℕ) (p : Problem) (v : Verdict) → Decides0 limit p v → Ends v
unfolding not_equivalent_at
decided_0_ends limit p v (differs_0 values n e) = tt
decided_0_ends limit p v (stops_0 x) = tt

course_ends : (earliest : Bool) (limit : ℕ) (p : Problem) (D : ℕ) (v : Verdict) → Course earliest limit p D v → Ends v
course_ends earliest limit p D v (decides_0 mode low w) = decided_0_ends limit p v w
course_ends earliest limit p D v (decides d low high first passed w) = decided-ends limit p d v w
course_ends earliest limit p D v (passes first f) = tt

-- a verdict that ends has a status and a depth
ends-answered : (v : Verdict) → Ends v → (status : Status) × (d : ℕ) × (verdict_says v ≡ answered status d)
unfolding verdict_says
ends-answered (Equivalent d) h = (Answers.Equivalent, d, refl)
ends-answered (NotEquivalent d m bytes) h = (Answers.NotEquivalent, d, refl)
ends-answered (Inconclusive d) h = (Answers.Inconclusive, d, refl)
ends-answered (GaveUp d q) h = (Answers.GaveUp, d, refl)
ends-answered OutOfFuel h = absurd h

-- the check of two designs, from any start bits, answers a status and a depth
pub designs_answer : (o : Options) (gold gate : Design) (s t : StoredBits) → (status : Status) × (d : ℕ) × (checked_designs o gold gate s t ≡ answered status d)
unfolding check_designs
designs_answer o gold gate s t =
    ends-answered _ (course_ends o.earliest o.limit (problem_of gold gate s t) o.depth _ (verdict_course o.limit (problem_of gold gate s t) o.earliest o.depth))

-- so does the check of two records, where no refusal applies
pub check-answers : (a b : List ℕ) (o : Options) (lent : Lent) → check_refusal a b o lent ≡ none
    → (status : Status) × (d : ℕ) × (checked a b o lent ≡ answered status d)
check-answers a b o lent free =
    let k : Accepted a b o lent = accepted-pair a b o lent free in
    let x = designs_answer o k.gold k.gate (initial_bits k.gold) (initial_bits k.gate) in
    (x.0, x.1, checked-is a b o lent k.gold k.gate free k.pair ∙ x.2)
