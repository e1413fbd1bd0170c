-- States named alike, by an array of matches: one more than the place of the other side's state with the name, 0 for none. Assumes nothing.
use Rattle.std.specs.Prelude.{◌≡◌, refl, Bool, true, false, cond, List, [], ◌∷◌, ℕ, zero, suc, ◌+◌, ◌<◌, length, get_or}
use Rattle.std.proofs.Common.{ap, ap₂, sym, ◌∙◌, arith, add-one}
use Rattle.std.proofs.Math.Option.{Option, none, some}
use Rattle.model.specs.Names.{Name, same_name}
use Rattle.model.specs.Lists.{snoc, position, next_place}
use Rattle.model.specs.Aig.{Aig, Built, variable}
use Rattle.model.specs.Transition.{StateBit}
use Rattle.model.specs.Equivalence.{LiteralList, with_built, state_literal, cons_pair, named_pairs, gate_variable, matched, gate_variables}
use Rattle.lowering.specs.Firsts.{firsts, length-firsts, get_or-firsts, Below}
use Rattle.transition.specs.Namesakes.{match_of, match_in, namesakes}

-- what stands at a match
unfoldable pub at_match : ℕ → List ℕ → Option ℕ
at_match zero ks = none
at_match (suc i) ks = some (get_or ks i 0)

state-at : (n : Name) (ts : List StateBit) (ks : List ℕ) → length ks ≡ length ts
    → state_literal n ts ks ≡ at_match (match_of (position (λ (t : StateBit). same_name n t.name) ts)) ks
unfolding state_literal position next_place match_of at_match
state-at n [] ks e = refl
state-at n (t ∷ ts) [] e = absurd (omega arith)
state-at n (t ∷ ts) (k ∷ ks) e = go (same_name n t.name) (state-at n ts ks (omega arith) ∙ later (position (λ (t : StateBit). same_name n t.name) ts))
  where
    later : (o : Option ℕ) → at_match (match_of o) ks ≡ at_match (match_of (next_place o)) (k ∷ ks)
    later none = refl
    later (some i) = refl

    go : (b : Bool) → state_literal n ts ks ≡ at_match (match_of (next_place (position (λ (t : StateBit). same_name n t.name) ts))) (k ∷ ks)
        → cond b (some k) (state_literal n ts ks) ≡ at_match (match_of (cond b (some 0) (next_place (position (λ (t : StateBit). same_name n t.name) ts)))) (k ∷ ks)
    go true q = refl
    go false q = q

-- ---- pairs

-- one pair more, if there is a match
unfoldable pub add_pair : List (ℕ × ℕ) → ℕ → Option ℕ → List (ℕ × ℕ)
add_pair ps l none = ps
add_pair ps l (some k) = snoc ps (l, k)

-- the pairs of the first n states that have a match
unfoldable pub named_by : ℕ → List ℕ → List ℕ → List ℕ → List (ℕ × ℕ)
named_by zero ms ls ks = []
named_by (suc n) ms ls ks = add_pair (named_by n ms ls ks) (get_or ls n 0) (at_match (get_or ms n 0) ks)

pub named-suc : (n : ℕ) (ms ls ks : List ℕ) → named_by (n + 1) ms ls ks ≡ add_pair (named_by n ms ls ks) (get_or ls n 0) (at_match (get_or ms n 0) ks)
unfolding named_by
named-suc n ms ls ks = rw add-one

-- the same over lists
unfoldable matched_pairs : List ℕ → List ℕ → List ℕ → List (ℕ × ℕ)
matched_pairs [] ls ks = []
matched_pairs (m ∷ ms) [] ks = []
matched_pairs (m ∷ ms) (l ∷ ls) ks = cons_pair l (at_match m ks) (matched_pairs ms ls ks)

pairs-matched : (ss : List StateBit) (ls : List ℕ) (ts : List StateBit) (ks : List ℕ) → length ks ≡ length ts → named_pairs ss ls ts ks ≡ matched_pairs (namesakes ss ts) ls ks
unfolding named_pairs matched_pairs namesakes match_in
pairs-matched [] ls ts ks e = refl
pairs-matched (s ∷ ss) [] ts ks e = refl
pairs-matched (s ∷ ss) (l ∷ ls) ts ks e = ap₂ (λ (o : Option ℕ) (ps : List (ℕ × ℕ)). cons_pair l o ps) (state-at s.name ts ks e) (pairs-matched ss ls ts ks e)

cons_add : (a : ℕ) (o : Option ℕ) (ps : List (ℕ × ℕ)) (l : ℕ) (q : Option ℕ) → cons_pair a o (add_pair ps l q) ≡ add_pair (cons_pair a o ps) l q
unfolding cons_pair add_pair snoc
cons_add a none ps l q = refl
cons_add a (some k) ps l none = refl
cons_add a (some k) ps l (some j) = refl

first-add : (l : ℕ) (q : Option ℕ) → cons_pair l q [] ≡ add_pair [] l q
unfolding cons_pair add_pair snoc
first-add l none = refl
first-add l (some j) = refl

matched-snoc : (ms ls ks : List ℕ) (m l : ℕ) → length ms ≡ length ls → matched_pairs (snoc ms m) (snoc ls l) ks ≡ add_pair (matched_pairs ms ls ks) l (at_match m ks)
unfolding matched_pairs snoc
matched-snoc [] [] ks m l e = first-add l (at_match m ks)
matched-snoc [] (b ∷ ls) ks m l e = absurd (omega arith)
matched-snoc (a ∷ ms) [] ks m l e = absurd (omega arith)
matched-snoc (a ∷ ms) (b ∷ ls) ks m l e =
    ap (λ (ps : List (ℕ × ℕ)). cons_pair b (at_match a ks) ps) (matched-snoc ms ls ks m l (omega arith)) ∙ cons_add b (at_match a ks) (matched_pairs ms ls ks) l (at_match m ks)

matched-firsts : (n : ℕ) (ms ls ks : List ℕ) → matched_pairs (firsts n ms) (firsts n ls) ks ≡ named_by n ms ls ks
unfolding firsts matched_pairs named_by
matched-firsts zero ms ls ks = refl
matched-firsts (suc n) ms ls ks =
    matched-snoc (firsts n ms) (firsts n ls) ks (get_or ms n 0) (get_or ls n 0) (omega (arith, length-firsts n ms, length-firsts n ls))
    ∙ ap (λ (ps : List (ℕ × ℕ)). add_pair ps (get_or ls n 0) (at_match (get_or ms n 0) ks)) (matched-firsts n ms ls ks)

at-firsts : (m n : ℕ) (ks : List ℕ) → n < m + 1 → at_match n (firsts m ks) ≡ at_match n ks
unfolding at_match
at-firsts m zero ks h = refl
at-firsts m (suc n) ks h = ap some (get_or-firsts m ks n (omega arith))

named-firsts : (n m : ℕ) (ms ls ks : List ℕ) → Below (m + 1) n ms → named_by n ms ls (firsts m ks) ≡ named_by n ms ls ks
unfolding named_by
named-firsts zero m ms ls ks b = refl
named-firsts (suc n) m ms ls ks b =
    ap₂ (λ (ps : List (ℕ × ℕ)) (o : Option ℕ). add_pair ps (get_or ls n 0) o) (named-firsts n m ms ls ks (record { at = λ i h. b.at i (omega arith) })) (at-firsts m (get_or ms n 0) ks (b.at n (omega arith)))

-- the pairs of states named alike, by the array of matches
pub named-is : (n m : ℕ) (ms ls ks : List ℕ) (ss ts : List StateBit) → Below (m + 1) n ms → length ts ≡ m → firsts n ms ≡ namesakes ss ts
    → named_pairs ss (firsts n ls) ts (firsts m ks) ≡ named_by n ms ls ks
named-is n m ms ls ks ss ts b e q =
    pairs-matched ss (firsts n ls) ts (firsts m ks) (omega (arith, length-firsts m ks))
    ∙ ap (λ (xs : List ℕ). matched_pairs xs (firsts n ls) (firsts m ks)) (sym q)
    ∙ matched-firsts n ms ls (firsts m ks)
    ∙ named-firsts n m ms ls ks b

-- ---- free states

-- the literal of a gate state by its match: gold's, or a new variable
unfoldable pub gate_built : ℕ → List ℕ → Aig → Built
gate_built zero ls g = variable g
gate_built (suc m) ls g = record { aig = g; literal = get_or ls m 0 }

-- a match that counts only where named states are shared
unfoldable pub shared_match : Bool → ℕ → ℕ
shared_match true m = m
shared_match false m = 0

-- one gate state more
abbrev gate_step : Bool → List ℕ → ℕ → LiteralList → LiteralList
gate_step share ls m v = with_built v.literals (gate_built (shared_match share m) ls v.aig)

-- the first n gate states
unfoldable pub gate_by : ℕ → Bool → List ℕ → List ℕ → LiteralList → LiteralList
gate_by zero share ms ls v = v
gate_by (suc n) share ms ls v = gate_step share ls (get_or ms n 0) (gate_by n share ms ls v)

unfoldable gate_over : Bool → List ℕ → List ℕ → LiteralList → LiteralList
gate_over share [] ls v = v
gate_over share (m ∷ ms) ls v = gate_over share ms ls (gate_step share ls m v)

gate_match : (v : LiteralList) (ls : List ℕ) (m : ℕ) → gate_variable v (at_match m ls) ≡ with_built v.literals (gate_built m ls v.aig)
unfolding gate_variable with_built gate_built at_match
gate_match v ls zero = refl
gate_match v ls (suc m) = refl

gate-one : (share : Bool) (s : StateBit) (gold : List StateBit) (ls : List ℕ) (v : LiteralList) → length ls ≡ length gold
    → gate_variable v (matched share s.name gold ls) ≡ gate_step share ls (match_in gold s) v
unfolding matched match_in shared_match at_match
gate-one false s gold ls v e = gate_match v ls 0
gate-one true s gold ls v e = ap (λ (o : Option ℕ). gate_variable v o) (state-at s.name gold ls e) ∙ gate_match v ls (match_in gold s)

gates_over : (share : Bool) (gold : List StateBit) (ls : List ℕ) (v : LiteralList) (ss : List StateBit) → length ls ≡ length gold
    → gate_variables share gold ls v ss ≡ gate_over share (namesakes ss gold) ls v
unfolding gate_variables gate_over namesakes
gates_over share gold ls v [] e = refl
gates_over share gold ls v (s ∷ ss) e =
    gates_over share gold ls (gate_variable v (matched share s.name gold ls)) ss e
    ∙ ap (λ (u : LiteralList). gate_over share (namesakes ss gold) ls u) (gate-one share s gold ls v e)

over_snoc : (share : Bool) (ms ls : List ℕ) (m : ℕ) (v : LiteralList) → gate_over share (snoc ms m) ls v ≡ gate_step share ls m (gate_over share ms ls v)
unfolding gate_over snoc
over_snoc share [] ls m v = refl
over_snoc share (a ∷ ms) ls m v = over_snoc share ms ls m (gate_step share ls a v)

over_firsts : (n : ℕ) (share : Bool) (ms ls : List ℕ) (v : LiteralList) → gate_over share (firsts n ms) ls v ≡ gate_by n share ms ls v
unfolding firsts gate_over gate_by
over_firsts zero share ms ls v = refl
over_firsts (suc n) share ms ls v =
    over_snoc share (firsts n ms) ls (get_or ms n 0) v ∙ ap (λ (u : LiteralList). gate_step share ls (get_or ms n 0) u) (over_firsts n share ms ls v)

built-firsts : (m : ℕ) (share : Bool) (x : ℕ) (ls : List ℕ) (g : Aig) → x < m + 1 → gate_built (shared_match share x) (firsts m ls) g ≡ gate_built (shared_match share x) ls g
unfolding gate_built shared_match
built-firsts m false x ls g h = refl
built-firsts m true zero ls g h = refl
built-firsts m true (suc x) ls g h = ap (λ (l : ℕ). record { aig = g; literal = l }) (get_or-firsts m ls x (omega arith))

gate-firsts : (n m : ℕ) (share : Bool) (ms ls : List ℕ) (v : LiteralList) → Below (m + 1) n ms → gate_by n share ms (firsts m ls) v ≡ gate_by n share ms ls v
unfolding gate_by
gate-firsts zero m share ms ls v b = refl
gate-firsts (suc n) m share ms ls v b =
    ap (λ (u : LiteralList). gate_step share (firsts m ls) (get_or ms n 0) u) (gate-firsts n m share ms ls v (record { at = λ i h. b.at i (omega arith) }))
    ∙ ap (λ (x : Built). with_built (gate_by n share ms ls v).literals x) (built-firsts m share (get_or ms n 0) ls (gate_by n share ms ls v).aig (b.at n (omega arith)))

-- gate's free states, by the array of matches
pub gates_are : (n m : ℕ) (share : Bool) (ms ls : List ℕ) (v : LiteralList) (gold ss : List StateBit) → Below (m + 1) n ms → length gold ≡ m → firsts n ms ≡ namesakes ss gold
    → gate_variables share gold (firsts m ls) v ss ≡ gate_by n share ms ls v
gates_are n m share ms ls v gold ss b e q =
    gates_over share gold (firsts m ls) v ss (omega (arith, length-firsts m ls))
    ∙ ap (λ (xs : List ℕ). gate_over share xs (firsts m ls) v) (sym q)
    ∙ over_firsts n share ms (firsts m ls) v
    ∙ gate-firsts n m share ms ls v b

pub gate-suc : (n : ℕ) (share : Bool) (ms ls : List ℕ) (v : LiteralList)
    → gate_by (n + 1) share ms ls v ≡ (let u = gate_by n share ms ls v in with_built u.literals (gate_built (shared_match share (get_or ms n 0)) ls u.aig))
unfolding gate_by
gate-suc n share ms ls v = rw add-one
