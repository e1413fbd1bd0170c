-- What follows where no refusal of a record applies. Assumes nothing.
use Rattle.std.specs.Prelude.{ℕ, zero, suc, ◌+◌, ◌<◌, ◌≡◌, refl, Bool, true, false, List, [], ◌∷◌, length, get_or}
use Rattle.std.proofs.Math.Option.{Option, none, some}
use Rattle.std.proofs.Common.{arith, add-zero, suc-add, add-suc, not-suc-le-zero, le_of_suc-le-suc}
use Rattle.std.proofs.lemmas.Bool.{not-false}
use Rattle.model.specs.Answers.{Refusal}
use Rattle.model.specs.Names.{Name, member_name}
use Rattle.model.specs.Netlist.{Node, Register, RegisterOutput, Design, input_numbers}
use Rattle.model.specs.Record.{Read, parsed, refused_record, parse}
use Rattle.model.specs.Validate.{◌otherwise◌, refuse_if, all_below, add_name, port_name, repeats, node_fault, nodes_fault, register_fault, registers_fault, validate, judged, validated, read_record}

-- two checks refuse nothing exactly when each refuses nothing
pub otherwise_none : (x y : Option Refusal) → x otherwise y ≡ none → (x ≡ none) × (y ≡ none)
unfolding ◌otherwise◌
otherwise_none none y h = (refl, h)
otherwise_none (some r) y h = absurd (let z : ◌≡◌ {A = ℕ} 0 1 = cc in omega arith)

-- a test that does not refuse is false
pub refuse_if-none : (n side place : ℕ) (b : Bool) → refuse_if n side place b ≡ none → b ≡ false
unfolding refuse_if
refuse_if-none n side place true h = absurd (let z : ◌≡◌ {A = ℕ} 0 1 = cc in omega arith)
refuse_if-none n side place false h = refl

-- and the other way round
pub none_otherwise : (x y : Option Refusal) → x ≡ none → y ≡ none → x otherwise y ≡ none
unfolding ◌otherwise◌
none_otherwise x y p q = rw p q

-- a test that is false does not refuse
pub pass : (n side place : ℕ) (b : Bool) → b ≡ false → refuse_if n side place b ≡ none
unfolding refuse_if
pass n side place b h = rw h

-- a record is accepted exactly when it is parsed and no check refuses
judged-parsed : (x d : Design) (r : Option Refusal) → judged x r ≡ parsed d → (x ≡ d) × (r ≡ none)
unfolding judged
judged-parsed x d none h = (cc, refl)
judged-parsed x d (some r) h = absurd (let z : ◌≡◌ {A = ℕ} 0 1 = cc in omega arith)

validated-parsed : (r : Read) (d : Design) → validated r ≡ parsed d → (r ≡ parsed d) × (validate d ≡ none)
unfolding validated
validated-parsed (parsed x) d h = let j = judged-parsed x d (validate x) h in let e : x ≡ d = j.0 in let f : validate x ≡ none = j.1 in (cc, cc)
validated-parsed (refused_record r) d h = absurd (let z : ◌≡◌ {A = ℕ} 0 1 = cc in omega arith)

-- an accepted record is parsed, and no check refuses it
pub accepted-parsed : (s : List ℕ) (d : Design) → read_record s ≡ parsed d → (parse s ≡ parsed d) × (validate d ≡ none)
unfolding read_record
accepted-parsed s d h = validated-parsed (parse s) d h

-- 7: the input numbers of a node are below its own
node_fault-below : (i : ℕ) (names : List Name) (n : Node) → node_fault i names n ≡ none → all_below i (input_numbers n) ≡ true
unfolding node_fault
node_fault-below i names n h =
    not-false (all_below i (input_numbers n)) (refuse_if-none 7 0 i _ (otherwise_none (refuse_if 7 0 i _) (refuse_if 8 0 i (repeats names (port_name n))) h).0)

-- where 7 and 8 refuse nothing, the inputs of a node stand before it
pub nodes_fault-below : (i : ℕ) (names : List Name) (ns : List Node) → nodes_fault i names ns ≡ none → (k : ℕ) → k < length ns → all_below (i + k) (input_numbers (get_or ns k RegisterOutput)) ≡ true
unfolding nodes_fault
nodes_fault-below i names [] h k l = absurd (not-suc-le-zero l)
nodes_fault-below i names (n ∷ ns) h zero l = rw add-zero (node_fault-below i names n (otherwise_none (node_fault i names n) (nodes_fault (suc i) (add_name (port_name n) names) ns) h).0)
nodes_fault-below i names (n ∷ ns) h (suc k) l =
    rw (add-suc, ← suc-add)
    (nodes_fault-below (suc i) (add_name (port_name n) names) ns (otherwise_none (node_fault i names n) (nodes_fault (suc i) (add_name (port_name n) names) ns) h).1 k (le_of_suc-le-suc l))

-- the first register has a new name, and the others are checked after it
pub register-new : (nodes : List Node) (i : ℕ) (names : List Name) (taken : List ℕ) (r : Register) (rs : List Register) → registers_fault nodes i names taken (r ∷ rs) ≡ none → (member_name r.name names ≡ false) × (registers_fault nodes (suc i) (r.name ∷ names) (r.output ∷ taken) rs ≡ none)
unfolding registers_fault register_fault
register-new nodes i names taken r rs h =
    let o = otherwise_none (register_fault nodes i names taken r) _ h in
    (refuse_if-none 9 0 i _ (otherwise_none (refuse_if 9 0 i (member_name r.name names)) _ o.0).0, o.1)
