-- The lookup of an earlier pair: chains of nodes by their larger literal, newest first, find the first position in the node list. Assumes nothing.
use Rattle.std.specs.Prelude.{◌≡◌, refl, Bool, true, false, ◌&&◌, cond, List, [], ◌∷◌, ℕ, zero, suc, ◌+◌, ◌*◌, ◌≤◌, ◌<◌, eqb, ltb, length, get_or, set}
use Rattle.std.proofs.Common.{ap, sym, ◌∙◌, arith, add-one, length-set, get_or-set_other, get_or-set_same, ltb-true, ltb-false, eqb-true, eq-eqb, ne_eqb}
use Rattle.std.proofs.lemmas.Bool.{false≢true, eqb-false}
use Rattle.std.proofs.Math.Bool.{and-false, and-true}
use Rattle.std.proofs.Math.Option.{Option, none, some}
use Rattle.model.specs.Lists.{snoc, position, next_place}
use Rattle.model.specs.Aig.{is_and}
use Rattle.aig.specs.Graph.{node_of, node_at, nodes_of, length-nodes, Ordered, ordered_le, ordered-set, Ascending}

-- the newest of the first n nodes whose larger literal is r; 0 where there is none
unfoldable pub latest : List ℕ → ℕ → ℕ → ℕ
latest rs r zero = 0
latest rs r (suc n) = cond (eqb (get_or rs n 0) r) n (latest rs r n)

-- the newest of the first n nodes that is the conjunction of l and r; 0 where there is none
unfoldable pub last_and : List ℕ → List ℕ → ℕ → ℕ → ℕ → ℕ
last_and ls rs l r zero = 0
last_and ls rs l r (suc n) = cond (is_and l r (node_at ls rs n)) n (last_and ls rs l r n)

-- a node number as a place: 0 is none, since node 0 is no conjunction
unfoldable pub place : ℕ → Option ℕ
place zero = none
place (suc i) = some (suc i)

-- The chains of a graph of n nodes: `hs` has for each of its literals the newest node whose larger literal it is, `ns` the node before it in its chain, no pair stands twice,
-- and each is ascending. Of the words past the graph's literals nothing is known.
pub record Indexed (n : ℕ) (ls rs ns hs : List ℕ) : Type 0 where
  pub heads : (r : ℕ) → 0 < r → r < n * 2 → get_or hs r 0 ≡ latest rs r n
  pub nexts : (i : ℕ) → i < n → 0 < get_or rs i 0 → get_or ns i 0 ≡ latest rs (get_or rs i 0) i
  pub once : (i : ℕ) → i < n → 0 < get_or rs i 0 → last_and ls rs (get_or ls i 0) (get_or rs i 0) i ≡ 0
  pub ordered : Ordered n ls rs
  pub gates : (i : ℕ) → i < n → 0 < get_or rs i 0 → Ascending (get_or ls i 0) (get_or rs i 0)

-- ---- one node more

by_eqb : (a b : ℕ) (P : Bool → Type 0) → (a ≡ b → P true) → ((a ≡ b → ⊥) → P false) → P (eqb a b)
by_eqb a b P p q = go (eqb a b) refl
  where
    go : (t : Bool) → eqb a b ≡ t → P t
    go true e = p (eqb-true a b e)
    go false e = q (eqb-false a b e)

pub latest-suc-same : (rs : List ℕ) (r n : ℕ) → get_or rs n 0 ≡ r → latest rs r (suc n) ≡ n
unfolding latest
latest-suc-same rs r n e = rw (eq-eqb (get_or rs n 0) r e)

pub latest-suc_other : (rs : List ℕ) (r n : ℕ) → (get_or rs n 0 ≡ r → ⊥) → latest rs r (suc n) ≡ latest rs r n
unfolding latest
latest-suc_other rs r n e = rw (ne_eqb (get_or rs n 0) r e)

pub latest-set : (rs : List ℕ) (r n i v : ℕ) → n ≤ i → latest (set rs i v) r n ≡ latest rs r n
unfolding latest
latest-set rs r zero i v h = refl
latest-set rs r (suc n) i v h =
    let p : get_or (set rs i v) n 0 ≡ get_or rs n 0 = get_or-set_other rs i n v 0 (λ e. omega arith) in
    rw (p, latest-set rs r n i v (omega arith))

pub last_set : (ls rs : List ℕ) (l r n i a b : ℕ) → n ≤ i → last_and (set ls i a) (set rs i b) l r n ≡ last_and ls rs l r n
unfolding last_and
last_set ls rs l r zero i a b h = refl
last_set ls rs l r (suc n) i a b h =
    let p : get_or (set ls i a) n 0 ≡ get_or ls n 0 = get_or-set_other ls i n a 0 (λ e. omega arith) in
    let q : get_or (set rs i b) n 0 ≡ get_or rs n 0 = get_or-set_other rs i n b 0 (λ e. omega arith) in
    rw (p, q, last_set ls rs l r n i a b (omega arith))

-- ---- what a chain finds

-- a chain's node comes before the nodes counted
pub latest-lt : (rs : List ℕ) (r n : ℕ) → 0 < n → latest rs r n < n
unfolding latest
latest-lt rs r zero h = h
latest-lt rs r (suc zero) h = by_eqb (get_or rs 0 0) r (λ t. cond t 0 0 < 1) (λ _. omega arith) (λ _. omega arith)
latest-lt rs r (suc (suc n)) h =
    let k : latest rs r (suc n) < suc n = latest-lt rs r (suc n) (omega arith) in
    by_eqb (get_or rs (suc n) 0) r (λ t. cond t (suc n) (latest rs r (suc n)) < suc (suc n)) (λ _. omega arith) (λ _. omega arith)

-- a chain's node has its literal
pub latest-has : (rs : List ℕ) (r n : ℕ) → 0 < latest rs r n → get_or rs (latest rs r n) 0 ≡ r
unfolding latest
latest-has rs r zero h = absurd (omega arith)
latest-has rs r (suc n) h =
    by_eqb (get_or rs n 0) r (λ t. 0 < cond t n (latest rs r n) → get_or rs (cond t n (latest rs r n)) 0 ≡ r)
    (λ e _. e) (λ _ k. latest-has rs r n k) h

-- no node has a literal above all of theirs
latest-none : (rs : List ℕ) (r n : ℕ) → ((i : ℕ) → i < n → get_or rs i 0 < r) → latest rs r n ≡ 0
unfolding latest
latest-none rs r zero h = refl
latest-none rs r (suc n) h =
    let k : get_or rs n 0 < r = h n (omega arith) in
    rw (ne_eqb (get_or rs n 0) r (λ e. omega arith)) (latest-none rs r n (λ i m. h i (omega arith)))

-- the search of a chain from node p on, by its nodes' smaller literals
unfoldable pub chained : List ℕ → List ℕ → ℕ → ℕ → ℕ → ℕ
chained ls rs l r zero = 0
chained ls rs l r (suc p) = cond (eqb l (get_or ls (suc p) 0)) (suc p) (last_and ls rs l r (suc p))

is_other : (l r i a b : ℕ) → (b ≡ r → ⊥) → is_and l r (node_of i a b) ≡ false
unfolding is_and node_of
is_other l r zero a b n = refl
is_other l r (suc i) a zero n = refl
is_other l r (suc i) a (suc b) n = rw (ne_eqb r (suc b) (λ e. n (sym e))) (and-false (eqb l a))

is_same : (l i a b : ℕ) → is_and l (suc b) (node_of (suc i) a (suc b)) ≡ eqb l a
unfolding is_and node_of
is_same l i a b = rw (eq-eqb (suc b) (suc b) refl) (and-true (eqb l a))

-- the newest conjunction of l and r is in the chain of r
pub in_chain : (ls rs : List ℕ) (l r n : ℕ) → get_or rs 0 0 ≡ 0 → last_and ls rs l (suc r) n ≡ chained ls rs l (suc r) (latest rs (suc r) n)
unfolding last_and latest chained
in_chain ls rs l r zero g = refl
in_chain ls rs l r (suc n) g =
    by_eqb (get_or rs n 0) (suc r)
    (λ t. cond (is_and l (suc r) (node_at ls rs n)) n (last_and ls rs l (suc r) n) ≡ chained ls rs l (suc r) (cond t n (latest rs (suc r) n)))
    (λ e. here n e)
    (λ e. rw (is_other l (suc r) n (get_or ls n 0) (get_or rs n 0) e) (in_chain ls rs l r n g))
  where
    here : (m : ℕ) → get_or rs m 0 ≡ suc r → cond (is_and l (suc r) (node_at ls rs m)) m (last_and ls rs l (suc r) m) ≡ chained ls rs l (suc r) m
    here zero e = absurd (omega arith)
    here (suc m) e = rw (e, is_same l m (get_or ls (suc m) 0) r)

-- ---- the newest is the first, since no pair stands twice

-- the place of an element after those searched
unfoldable or_else : Option ℕ → ℕ → Bool → Option ℕ
or_else (some i) k t = some i
or_else none k true = some k
or_else none k false = none

next_else : (o : Option ℕ) (k : ℕ) (t : Bool) → next_place (or_else o k t) ≡ or_else (next_place o) (suc k) t
unfolding next_place or_else
next_else (some i) k t = refl
next_else none k true = refl
next_else none k false = refl

position-snoc : {A : Type 0} (p : A → Bool) (xs : List A) (x : A) → position p (snoc xs x) ≡ or_else (position p xs) (length xs) (p x)
unfolding position snoc or_else next_place
position-snoc p [] x = go (p x)
  where
    go : (t : Bool) → cond t (some 0) none ≡ or_else none 0 t
    go true = refl
    go false = refl
position-snoc p (y ∷ xs) x = rw (position-snoc p xs x, next_else) (go (p y))
  where
    go : (t : Bool) → cond t (some 0) (or_else (next_place (position p xs)) (suc (length xs)) (p x)) ≡ or_else (cond t (some 0) (next_place (position p xs))) (suc (length xs)) (p x)
    go true = refl
    go false = refl

-- a conjunction is one of its pair, past node 0
pair_of : (l r n a b : ℕ) → is_and l r (node_of n a b) ≡ true → (l ≡ a) × (r ≡ b) × (0 < n) × (0 < b)
unfolding is_and node_of
pair_of l r zero a b e = absurd (false≢true e)
pair_of l r (suc n) a zero e = absurd (false≢true e)
pair_of l r (suc n) a (suc b) e = go (eqb l a) (eqb r (suc b)) refl refl e
  where
    go : (s t : Bool) → eqb l a ≡ s → eqb r (suc b) ≡ t → (s && t) ≡ true → (l ≡ a) × (r ≡ suc b) × (0 < suc n) × (0 < suc b)
    go true true p q e = (eqb-true l a p, eqb-true r (suc b) q, omega arith, omega arith)
    go true false p q e = absurd (false≢true e)
    go false t p q e = absurd (false≢true e)

-- the place of a node that was found
pub place-some : (m : ℕ) → 0 < m → some m ≡ place m
unfolding place
place-some zero h = absurd (omega arith)
place-some (suc m) h = refl

-- THE LOOKUP: the newest conjunction of a pair is the first position of it in the node list
pub first-position : (ls rs : List ℕ) (l r n : ℕ)
    → ((i : ℕ) → i < n → 0 < get_or rs i 0 → last_and ls rs (get_or ls i 0) (get_or rs i 0) i ≡ 0)
    → position (is_and l r) (nodes_of n ls rs) ≡ place (last_and ls rs l r n)
unfolding nodes_of last_and position place or_else
first-position ls rs l r zero once = start
  where
    start : position (is_and l r) [] ≡ place 0
    start = refl
first-position ls rs l r (suc n) once =
    rw (position-snoc (is_and l r) (nodes_of n ls rs) (node_at ls rs n), length-nodes, first-position ls rs l r n (λ i h. once i (omega arith))) (go (is_and l r (node_at ls rs n)) refl)
  where
    absent : (m : ℕ) → or_else (place m) n false ≡ place m
    absent zero = refl
    absent (suc m) = refl

    go : (t : Bool) → is_and l r (node_at ls rs n) ≡ t → or_else (place (last_and ls rs l r n)) n t ≡ place (cond t n (last_and ls rs l r n))
    go true e =
        let p : (l ≡ get_or ls n 0) × (r ≡ get_or rs n 0) × (0 < n) × (0 < get_or rs n 0) = pair_of l r n (get_or ls n 0) (get_or rs n 0) e in
        let z : last_and ls rs l r n ≡ 0 = rw (p.0, p.1) (once n (omega arith) p.3) in
        rw z (place-some n p.2)
    go false e = absent (last_and ls rs l r n)

-- ---- the chains of a graph with one node more

-- the last place, or an earlier one
by_last : (i n : ℕ) (P : ℕ → Type 0) → (i < n → P i) → P n → i < n + 1 → P i
by_last i n P p q h = go (eqb i n) refl
  where
    go : (t : Bool) → eqb i n ≡ t → P i
    go true e = rw (eqb-true i n e) q
    go false e = p (omega (arith, eqb-false i n e))

-- the heads with the chains of node n's two literals empty
abbrev pub opened_heads : List ℕ → ℕ → List ℕ
opened_heads hs n = set (set hs (n * 2) 0) (n * 2 + 1) 0

-- no node has a literal of a node after it, so that the heads of one node more are right once those two are empty
opened-heads : (n : ℕ) (ls rs ns hs : List ℕ) → Indexed n ls rs ns hs → n * 2 + 1 < length hs → (r : ℕ) → 0 < r → r < (n + 1) * 2 → get_or (opened_heads hs n) r 0 ≡ latest rs r n
opened-heads n ls rs ns hs ix long r h k = go (ltb r (n * 2)) refl (eqb r (n * 2 + 1)) refl
  where
    past : n * 2 ≤ r → latest rs r n ≡ 0
    past m = latest-none rs r n (λ i j. omega (arith, ordered_le n ls rs ix.ordered i j))

    go : (t : Bool) → ltb r (n * 2) ≡ t → (u : Bool) → eqb r (n * 2 + 1) ≡ u → get_or (opened_heads hs n) r 0 ≡ latest rs r n
    go true e u f =
        let m : r < n * 2 = ltb-true r (n * 2) e in
        get_or-set_other (set hs (n * 2) 0) (n * 2 + 1) r 0 0 (λ x. omega arith) ∙ get_or-set_other hs (n * 2) r 0 0 (λ x. omega arith) ∙ ix.heads r h m
    go false e true f =
        rw (past (ltb-false r (n * 2) e), eqb-true r (n * 2 + 1) f) (get_or-set_same (set hs (n * 2) 0) (n * 2 + 1) 0 0 (simp length-set long))
    go false e false f =
        let m : r ≡ n * 2 = omega (arith, ltb-false r (n * 2) e, eqb-false r (n * 2 + 1) f) in
        rw (past (ltb-false r (n * 2) e), m) (get_or-set_other (set hs (n * 2) 0) (n * 2 + 1) (n * 2) 0 0 (λ x. omega arith) ∙ get_or-set_same hs (n * 2) 0 0 (omega arith))

module _ (n : ℕ) (ls rs ns hs : List ℕ) (ix : Indexed n ls rs ns hs) (hl : n < length ls) (hr : n < length rs) (hh : n * 2 + 1 < length hs) where
  -- what is known of a node stays, whatever pair the new one is
  old-once : (a b i : ℕ) → i < n → 0 < get_or (set rs n b) i 0 → last_and (set ls n a) (set rs n b) (get_or (set ls n a) i 0) (get_or (set rs n b) i 0) i ≡ 0
  old-once a b i h k =
      let p : get_or (set ls n a) i 0 ≡ get_or ls i 0 = get_or-set_other ls n i a 0 (λ e. omega arith) in
      let q : get_or (set rs n b) i 0 ≡ get_or rs i 0 = get_or-set_other rs n i b 0 (λ e. omega arith) in
      rw (last_set ls rs (get_or (set ls n a) i 0) (get_or (set rs n b) i 0) i n a b (omega arith), p, q) (ix.once i h (omega arith))

  old-nexts : (b i : ℕ) → i < n → 0 < get_or (set rs n b) i 0 → get_or ns i 0 ≡ latest (set rs n b) (get_or (set rs n b) i 0) i
  old-nexts b i h k =
      let q : get_or (set rs n b) i 0 ≡ get_or rs i 0 = get_or-set_other rs n i b 0 (λ e. omega arith) in
      rw (latest-set rs (get_or (set rs n b) i 0) i n b (omega arith), q) (ix.nexts i h (omega arith))

  old-gates : (a b i : ℕ) → i < n → 0 < get_or (set rs n b) i 0 → Ascending (get_or (set ls n a) i 0) (get_or (set rs n b) i 0)
  old-gates a b i h k =
      let p : get_or (set ls n a) i 0 ≡ get_or ls i 0 = get_or-set_other ls n i a 0 (λ e. omega arith) in
      let q : get_or (set rs n b) i 0 ≡ get_or rs i 0 = get_or-set_other rs n i b 0 (λ e. omega arith) in
      rw (p, q) (ix.gates i h (omega arith))

  -- the chains that the new node stands beside
  heads : (r : ℕ) → 0 < r → r < (n + 1) * 2 → get_or (opened_heads hs n) r 0 ≡ latest rs r n
  heads = opened-heads n ls rs ns hs ix hh

  -- a node without operands is in no chain
  pub indexed_leaf : Indexed (n + 1) (set ls n 0) (set rs n 0) ns (opened_heads hs n)
  indexed_leaf =
      let z : get_or (set rs n 0) n 0 ≡ 0 = get_or-set_same rs n 0 0 hr in
      record {
        heads = λ r h k. heads r h k ∙ rw (add-one, latest-suc_other (set rs n 0) r n (λ e. omega arith), latest-set rs r n n 0 (omega arith));
        nexts = λ i h k. by_last i n (λ j. 0 < get_or (set rs n 0) j 0 → get_or ns j 0 ≡ latest (set rs n 0) (get_or (set rs n 0) j 0) j) (λ j m. old-nexts 0 i j m) (λ m. absurd (omega arith)) h k;
        once = λ i h k. by_last i n (λ j. 0 < get_or (set rs n 0) j 0 → last_and (set ls n 0) (set rs n 0) (get_or (set ls n 0) j 0) (get_or (set rs n 0) j 0) j ≡ 0) (λ j m. old-once 0 0 i j m) (λ m. absurd (omega arith)) h k;
        ordered = record {
          at = λ i h k.
              by_last i n (λ j. 0 < get_or (set rs n 0) j 0 → (get_or (set ls n 0) j 0 < j * 2) × (get_or (set rs n 0) j 0 < j * 2))
              (ordered-set n ls rs ix.ordered 0 0 i) (λ m. absurd (omega arith)) h k;
        };
        gates = λ i h k. by_last i n (λ j. 0 < get_or (set rs n 0) j 0 → Ascending (get_or (set ls n 0) j 0) (get_or (set rs n 0) j 0)) (old-gates 0 0 i) (λ m. absurd (omega arith)) h k;
      }

  module _ (l r : ℕ) (hn : n < length ns) (up : Ascending l r) (ha : l < n * 2) (hb : r < n * 2) where
    h0 : 0 < r
    h0 = omega (arith, up.1)

    new-heads : (q : ℕ) → 0 < q → q < (n + 1) * 2 → get_or (set (opened_heads hs n) r n) q 0 ≡ latest (set rs n r) q (n + 1)
    new-heads q h k = go (eqb q r) refl
      where
        go : (t : Bool) → eqb q r ≡ t → get_or (set (opened_heads hs n) r n) q 0 ≡ latest (set rs n r) q (n + 1)
        go true e =
            ap (λ (k : ℕ). get_or (set (opened_heads hs n) r n) k 0) (eqb-true q r e) ∙ get_or-set_same (opened_heads hs n) r n 0 (simp length-set (omega arith))
            ∙ rw (add-one, eqb-true q r e, latest-suc-same (set rs n r) r n (get_or-set_same rs n r 0 hr))
        go false e =
            let z : get_or (set rs n r) n 0 ≡ r = get_or-set_same rs n r 0 hr in
            get_or-set_other (opened_heads hs n) r q n 0 (eqb-false q r e) ∙ heads q h k
            ∙ rw (add-one, latest-suc_other (set rs n r) q n (λ x. eqb-false q r e (sym x ∙ z)), latest-set rs q n n r (omega arith))

    new-next : get_or (set ns n (get_or (opened_heads hs n) r 0)) n 0 ≡ latest (set rs n r) (get_or (set rs n r) n 0) n
    new-next =
        rw (get_or-set_same ns n (get_or (opened_heads hs n) r 0) 0 hn, get_or-set_same rs n r 0 hr, latest-set rs r n n r (omega arith)) (heads r h0 (omega arith))

    old-next : (i : ℕ) → i < n → 0 < get_or (set rs n r) i 0 → get_or (set ns n (get_or (opened_heads hs n) r 0)) i 0 ≡ latest (set rs n r) (get_or (set rs n r) i 0) i
    old-next i h k = get_or-set_other ns n i (get_or (opened_heads hs n) r 0) 0 (λ e. omega arith) ∙ old-nexts r i h k

    new-once : last_and ls rs l r n ≡ 0 → last_and (set ls n l) (set rs n r) (get_or (set ls n l) n 0) (get_or (set rs n r) n 0) n ≡ 0
    new-once fresh = rw (get_or-set_same ls n l 0 hl, get_or-set_same rs n r 0 hr, last_set ls rs l r n n l r (omega arith)) fresh

    -- a conjunction that did not stand there begins the chain of its larger literal
    pub indexed-and : last_and ls rs l r n ≡ 0 → Indexed (n + 1) (set ls n l) (set rs n r) (set ns n (get_or (opened_heads hs n) r 0)) (set (opened_heads hs n) r n)
    indexed-and fresh =
        record {
          heads = new-heads;
          nexts = λ i h k.
              by_last i n (λ j. 0 < get_or (set rs n r) j 0 → get_or (set ns n (get_or (opened_heads hs n) r 0)) j 0 ≡ latest (set rs n r) (get_or (set rs n r) j 0) j)
              (old-next i) (λ _. new-next) h k;
          once = λ i h k.
              by_last i n (λ j. 0 < get_or (set rs n r) j 0 → last_and (set ls n l) (set rs n r) (get_or (set ls n l) j 0) (get_or (set rs n r) j 0) j ≡ 0)
              (old-once l r i) (λ _. new-once fresh) h k;
          ordered = record {
            at = λ i h k.
                by_last i n (λ j. 0 < get_or (set rs n r) j 0 → (get_or (set ls n l) j 0 < j * 2) × (get_or (set rs n r) j 0 < j * 2))
                (ordered-set n ls rs ix.ordered l r i)
                (λ _. (omega (arith, get_or-set_same ls n l 0 hl), omega (arith, get_or-set_same rs n r 0 hr))) h k;
          };
          gates = λ i h k.
              by_last i n (λ j. 0 < get_or (set rs n r) j 0 → Ascending (get_or (set ls n l) j 0) (get_or (set rs n r) j 0))
              (old-gates l r i) (λ _. rw (get_or-set_same ls n l 0 hl, get_or-set_same rs n r 0 hr) up) h k;
        }
