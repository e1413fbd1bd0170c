-- The literals of a system's variables put into IMPORTED: what is read there is what the list of pairs says. Assumes nothing.
use Rattle.std.specs.Prelude.{◌≡◌, refl, Bool, true, false, cond, List, [], ◌∷◌, ◌++◌, map, ℕ, zero, suc, ◌-◌, ◌≤◌, ◌<◌, eqb, length, get_or, set}
use Rattle.std.proofs.Common.{ap, sym, ◌∙◌, arith, add-one, get_or-set_same, get_or-set_other, eqb-true, ne_eqb}
use Rattle.std.proofs.lemmas.Bool.{false≢true, eqb-false}
use Rattle.words.specs.Layout.{LENT, SMALL, IMPORTED}
use Rattle.words.specs.Region.{region, stored, stores, length-region, length-stored}
use Rattle.model.specs.Lists.{snoc, lookup, member}
use Rattle.aig.specs.Graph.{graph_of}
use Rattle.aig.specs.Made.{Ready, Same, same_refl, same_trans, ready-stored, graph-stored}
use Rattle.import.specs.Importing.{beyond, same-imported}
use Rattle.lowering.specs.Firsts.{firsts, pairs, pairs-suc, map_snoc, Below}

-- the words with the literal of each pair at its place; of equal places the first pair counts
unfoldable pub given : List (ℕ × ℕ) → List ℕ → List ℕ
given [] w = w
given (v ∷ vs) w = stored IMPORTED (given vs w) v.0 v.1

given-snoc : (vs : List (ℕ × ℕ)) (v : ℕ × ℕ) (w : List ℕ) → given (snoc vs v) w ≡ given vs (stored IMPORTED w v.0 v.1)
unfolding given snoc
given-snoc [] v w = refl
given-snoc (u ∷ vs) v w = ap (λ (x : List ℕ). stored IMPORTED x u.0 u.1) (given-snoc vs v w)

pub given_append : (vs us : List (ℕ × ℕ)) (w : List ℕ) → given (vs ++ us) w ≡ given vs (given us w)
unfolding given
given_append [] us w = refl
given_append (v ∷ vs) us w = ap (λ (x : List ℕ). stored IMPORTED x v.0 v.1) (given_append vs us w)

-- from the last pair to the first
pub given-last : (i : ℕ) (ps ls w : List ℕ) → 0 < i → given (pairs (i - 1) ps ls) (stored IMPORTED w (get_or ps (i - 1) 0) (get_or ls (i - 1) 0)) ≡ given (pairs i ps ls) w
given-last zero ps ls w h = absurd (omega arith)
given-last (suc i) ps ls w h =
    let e : suc i - 1 ≡ i = omega arith in
    rw e (sym (given-snoc (pairs i ps ls) (get_or ps i 0, get_or ls i 0) w) ∙ ap (λ (vs : List (ℕ × ℕ)). given vs w) (sym (pairs-suc i ps ls) ∙ rw add-one))

pub length-given : (vs : List (ℕ × ℕ)) (w : List ℕ) → length (given vs w) ≡ length w
unfolding given
length-given [] w = refl
length-given (v ∷ vs) w = length-stored IMPORTED (given vs w) v.0 v.1 ∙ length-given vs w

pub given-same : (vs : List (ℕ × ℕ)) (w : List ℕ) → Same beyond w (given vs w)
unfolding given
given-same [] w = same_refl beyond w
given-same (v ∷ vs) w = same_trans (given-same vs w) (same-imported (given vs w) v.0 v.1)

pub given-ready : (vs : List (ℕ × ℕ)) (c : ℕ) (w : List ℕ) → Ready c w → Ready c (given vs w)
unfolding given
given-ready [] c w r = r
given-ready (v ∷ vs) c w r = ready-stored IMPORTED c (given vs w) v.0 v.1 refl (given-ready vs c w r)

pub given-graph : (vs : List (ℕ × ℕ)) (c : ℕ) (w : List ℕ) → graph_of c (given vs w) ≡ graph_of c w
unfolding given
given-graph [] c w = refl
given-graph (v ∷ vs) c w = graph-stored IMPORTED c (given vs w) v.0 v.1 refl ∙ given-graph vs c w

-- what stands at a place
pub given-at : (vs : List (ℕ × ℕ)) (w : List ℕ) (j : ℕ) → LENT ≤ length w → j < SMALL
    → get_or (region IMPORTED (given vs w)) j 0 ≡ lookup (get_or (region IMPORTED w) j 0) vs j
unfolding given lookup
given-at [] w j h k = refl
given-at (v ∷ vs) w j h k = simp stores (go (given-at vs w j h k) (eqb v.0 j) refl)
  where
    go : get_or (region IMPORTED (given vs w)) j 0 ≡ lookup (get_or (region IMPORTED w) j 0) vs j → (t : Bool) → eqb v.0 j ≡ t
        → get_or (set (region IMPORTED (given vs w)) v.0 v.1) j 0 ≡ cond t v.1 (lookup (get_or (region IMPORTED w) j 0) vs j)
    go q true e =
        let l : length (region IMPORTED (given vs w)) ≡ SMALL = length-region IMPORTED (given vs w) (omega (arith, length-given vs w)) in
        rw (eqb-true v.0 j e) (get_or-set_same (region IMPORTED (given vs w)) j v.1 0 (omega arith))
    go q false e = get_or-set_other (region IMPORTED (given vs w)) v.0 j v.1 0 (λ x. eqb-false v.0 j e (sym x)) ∙ q

-- ---- lists of pairs

-- a place that some pair has, whatever stood there
pub lookup-covered : (z y : ℕ) (vs : List (ℕ × ℕ)) (j : ℕ) → member j (map (λ (v : ℕ × ℕ). v.0) vs) ≡ true → lookup z vs j ≡ lookup y vs j
unfolding lookup member
lookup-covered z y [] j m = absurd (false≢true m)
lookup-covered z y (v ∷ vs) j m = go (λ x. lookup-covered z y vs j x) (eqb v.0 j) refl
  where
    go : (member j (map (λ (u : ℕ × ℕ). u.0) vs) ≡ true → lookup z vs j ≡ lookup y vs j) → (t : Bool) → eqb v.0 j ≡ t → cond t v.1 (lookup z vs j) ≡ cond t v.1 (lookup y vs j)
    go r true e = refl
    go r false e = r (rw (ne_eqb j v.0 (λ x. eqb-false v.0 j e (sym x))) at m)

-- the literals of all pairs are below k
unfoldable pub AllBelow : ℕ → List (ℕ × ℕ) → Type 0
AllBelow k [] = Unit {0}
AllBelow k (v ∷ vs) = (v.1 < k) × AllBelow k vs

pub lookup-below : (k z : ℕ) (vs : List (ℕ × ℕ)) (j : ℕ) → z < k → AllBelow k vs → lookup z vs j < k
unfolding lookup AllBelow
lookup-below k z [] j h b = h
lookup-below k z (v ∷ vs) j h b = go (eqb v.0 j) (lookup-below k z vs j h b.1)
  where
    go : (t : Bool) → lookup z vs j < k → cond t v.1 (lookup z vs j) < k
    go true r = b.0
    go false r = r

pub below_append : (k : ℕ) (vs us : List (ℕ × ℕ)) → AllBelow k vs → AllBelow k us → AllBelow k (vs ++ us)
unfolding AllBelow
below_append k [] us a b = b
below_append k (v ∷ vs) us a b = (a.0, below_append k vs us a.1 b)

pub below-pairs : (k n : ℕ) (ps ls : List ℕ) → Below k n ls → AllBelow k (pairs n ps ls)
unfolding pairs AllBelow snoc
below-pairs k zero ps ls b = tt
below-pairs k (suc n) ps ls b = below_append k (pairs n ps ls) ((get_or ps n 0, get_or ls n 0) ∷ []) (below-pairs k n ps ls (record { at = λ i h. b.at i (omega arith) })) (b.at n (omega arith), tt)

pub keys-pairs : (n : ℕ) (ps ls : List ℕ) → map (λ (v : ℕ × ℕ). v.0) (pairs n ps ls) ≡ firsts n ps
unfolding pairs firsts
keys-pairs zero ps ls = refl
keys-pairs (suc n) ps ls =
    map_snoc (λ (v : ℕ × ℕ). v.0) (pairs n ps ls) (get_or ps n 0, get_or ls n 0) ∙ ap (λ (xs : List ℕ). snoc xs (get_or ps n 0)) (keys-pairs n ps ls)
