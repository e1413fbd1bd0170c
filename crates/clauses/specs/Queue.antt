-- The watch queues: a head, a tail and a count for each literal, and a link for each cell; a queue is the walk of `count` cells from its head. Assumes nothing.
use Rattle.std.specs.Prelude.{◌≡◌, refl, Bool, true, false, cond, List, [], ◌∷◌, ◌++◌, ℕ, zero, suc, ◌+◌, ◌*◌, ◌<◌, ◌≤◌, eqb, set, get_or, length, take}
use Rattle.std.proofs.Common.{ap, arith, add-one, ne_eqb, get_or-set_same, get_or-set_other, get_or-take, length-take-le}
use Rattle.std.proofs.lemmas.Bool.{eqb-false}
use Rattle.std.proofs.Math.Seq.{take-set-lt}
use Rattle.facts.specs.Bools.{cond_same}
use Rattle.words.specs.Layout.{LENT, DOUBLE, CELLS, MOST-NODES, WATCH-HEADS, WATCH-TAILS, WATCH-COUNTS, LINKS}
use Rattle.words.specs.Region.{region, stored, stores, length-region}
use Rattle.clauses.specs.Members.{Free, Ends, EndsIn}

-- the four regions of the queues
pub record Queues : Type 0 where
  pub heads : List ℕ
  pub tails : List ℕ
  pub counts : List ℕ
  pub links : List ℕ

-- the queues of n variables in lent words: of a literal past theirs there is none, whatever its count's word holds
unfoldable pub queues_of : ℕ → List ℕ → Queues
queues_of n w = record { heads = region WATCH-HEADS w; tails = region WATCH-TAILS w; counts = take (n * 2) (region WATCH-COUNTS w); links = region LINKS w }

-- what a push to the queue of l asks: it is within the layout, and has room for one cell more
pub record HasRoom (w : List ℕ) (l : ℕ) : Type 0 where
  pub near : l < DOUBLE
  pub more : get_or (region WATCH-COUNTS w) l 0 < CELLS + 1
  pub tail : 0 < get_or (region WATCH-COUNTS w) l 0 → get_or (region WATCH-TAILS w) l 0 < CELLS

-- n cells from p on, each but the first the link of the one before
unfoldable pub walk : List ℕ → ℕ → ℕ → List ℕ
walk links zero p = []
walk links (suc n) p = p ∷ walk links n (get_or links p 0)

-- the cells of the queue of l, in order
unfoldable pub queue : Queues → ℕ → List ℕ
unfolding walk
queue q l = walk q.links (get_or q.counts l 0) (get_or q.heads l 0)

pub length-walk : (ls : List ℕ) (n p : ℕ) → length (walk ls n p) ≡ n
unfolding walk
length-walk ls zero p = refl
length-walk ls (suc n) p = ap suc (length-walk ls n (get_or ls p 0))

pub length-queue : (q : Queues) (l : ℕ) → length (queue q l) ≡ get_or q.counts l 0
unfolding queue
length-queue q l = length-walk _ _ _

-- a link of a cell that the walk does not pass
pub walk-free : (ls : List ℕ) (t x n p : ℕ) → Free t (walk ls n p) → walk (set ls t x) n p ≡ walk ls n p
unfolding walk
walk-free ls t x zero p f = refl
walk-free ls t x (suc n) p f = ap (λ (r : List ℕ). p ∷ r) (rw (get_or-set_other ls t p x 0 f.0) (walk-free ls t x n (get_or ls p 0) f.1))

-- the link of the last cell: one cell more
walk_more : (ls : List ℕ) (t x n p : ℕ) → t < length ls → Ends t p (walk ls n (get_or ls p 0)) → walk (set ls t x) (suc (suc n)) p ≡ walk ls (suc n) p ++ (x ∷ [])
unfolding walk
walk_more ls t x zero p h e = rw (e, get_or-set_same)
walk_more ls t x (suc n) p h e = ap (λ (r : List ℕ). p ∷ r) (rw (get_or-set_other ls t p x 0 e.0) (walk_more ls t x n (get_or ls p 0) h e.1))

-- ---- a cell at the end of a queue

-- the queues with x at the end of the queue of l
unfoldable pub pushed : Queues → ℕ → ℕ → Queues
pushed q l x = let n = get_or q.counts l 0 in record {
  heads = cond (eqb n 0) (set q.heads l x) q.heads;
  tails = set q.tails l x;
  counts = set q.counts l (n + 1);
  links = cond (eqb n 0) q.links (set q.links (get_or q.tails l 0) x);
}

-- what a push to the queue of l needs: its tail's cell is the last of its queue and in no other
pub record Pushable (q : Queues) (l : ℕ) : Type 0 where
  pub room : (l < length q.heads) × (l < length q.counts)
  pub cell : 0 < get_or q.counts l 0 → get_or q.tails l 0 < length q.links
  pub own : EndsIn (get_or q.tails l 0) (queue q l)
  pub others : 0 < get_or q.counts l 0 → (k : ℕ) → (k ≡ l → ⊥) → Free (get_or q.tails l 0) (queue q k)

-- a push appends
pub push_own : (q : Queues) (l x : ℕ) → Pushable q l → queue (pushed q l x) l ≡ queue q l ++ (x ∷ [])
unfolding queue pushed walk
push_own q l x r = go (get_or q.counts l 0) refl
  where
    go : (n : ℕ) → get_or q.counts l 0 ≡ n → queue (pushed q l x) l ≡ queue q l ++ (x ∷ [])
    go zero e = rw (get_or-set_same q.counts l _ 0 r.room.1, e, get_or-set_same q.heads l x 0 r.room.0)
    go (suc n) e = rw (get_or-set_same q.counts l _ 0 r.room.1, ne_eqb (get_or q.counts l 0) 0 (λ (z : get_or q.counts l 0 ≡ 0). omega arith), e, add-one)
        (walk_more q.links _ x n _ (r.cell (omega arith)) (rw e at r.own))

-- a walk that does not pass the tail of l is not changed by a push to l
pub push_walk : (q : Queues) (l x n p : ℕ) → (0 < get_or q.counts l 0 → Free (get_or q.tails l 0) (walk q.links n p))
    → walk (pushed q l x).links n p ≡ walk q.links n p
unfolding pushed
push_walk q l x n p f = go (eqb (get_or q.counts l 0) 0) refl
  where
    go : (b : Bool) → eqb (get_or q.counts l 0) 0 ≡ b → walk (cond b q.links (set q.links (get_or q.tails l 0) x)) n p ≡ walk q.links n p
    go true e = refl
    go false e = walk-free q.links (get_or q.tails l 0) x n p (f (omega (arith, eqb-false (get_or q.counts l 0) 0 e)))

counts_other : (q : Queues) (l x k : ℕ) → (k ≡ l → ⊥) → get_or (pushed q l x).counts k 0 ≡ get_or q.counts k 0
unfolding pushed
counts_other q l x k h = get_or-set_other q.counts l k (get_or q.counts l 0 + 1) 0 h

heads_other : (q : Queues) (l x k : ℕ) → (k ≡ l → ⊥) → get_or (pushed q l x).heads k 0 ≡ get_or q.heads k 0
unfolding pushed
heads_other q l x k h = go (eqb (get_or q.counts l 0) 0)
  where
    go : (b : Bool) → get_or (cond b (set q.heads l x) q.heads) k 0 ≡ get_or q.heads k 0
    go true = get_or-set_other q.heads l k x 0 h
    go false = refl

-- a push leaves the other queues alone
pub push_other : (q : Queues) (l x k : ℕ) → (k ≡ l → ⊥) → (0 < get_or q.counts l 0 → Free (get_or q.tails l 0) (queue q k)) → queue (pushed q l x) k ≡ queue q k
unfolding queue
push_other q l x k h f = rw (counts_other q l x k h, heads_other q l x k h) (push_walk q l x (get_or q.counts k 0) (get_or q.heads k 0) f)

-- the words after the head or the link of a push
unfoldable pub linked : List ℕ → ℕ → ℕ → List ℕ
linked w l x = cond (eqb (get_or (region WATCH-COUNTS w) l 0) 0) (stored WATCH-HEADS w l x) (stored LINKS w (get_or (region WATCH-TAILS w) l 0) x)

-- the words after a push
unfoldable pub pushed_words : List ℕ → ℕ → ℕ → List ℕ
unfolding linked
pushed_words w l x = stored WATCH-COUNTS (stored WATCH-TAILS (linked w l x) l x) l (get_or (region WATCH-COUNTS w) l 0 + 1)

region-cond : (b : ℕ) (t : Bool) (u v : List ℕ) → region b (cond t u v) ≡ cond t (region b u) (region b v)
region-cond b true u v = refl
region-cond b false u v = refl

-- the count of a literal of the variables is the one that the words hold
pub count-is : (n : ℕ) (w : List ℕ) (l : ℕ) → l < n * 2 → get_or (queues_of n w).counts l 0 ≡ get_or (region WATCH-COUNTS w) l 0
unfolding queues_of
count-is n w l k = get_or-take (n * 2) (region WATCH-COUNTS w) l 0 k

pub push_law : (n : ℕ) (w : List ℕ) (l x : ℕ) → l < n * 2 → queues_of n (pushed_words w l x) ≡ pushed (queues_of n w) l x
unfolding queues_of pushed linked pushed_words
push_law n w l x k = rw (get_or-take (n * 2) (region WATCH-COUNTS w) l 0 k)
    (simp (stores, region-cond, cond_same) (rw (take-set-lt (n * 2) (region WATCH-COUNTS w) l (get_or (region WATCH-COUNTS w) l 0 + 1) k)))

-- ---- a queue taken

-- the queues with the queue of l empty
unfoldable pub taken : Queues → ℕ → Queues
taken q l = record { heads = q.heads; tails = q.tails; counts = set q.counts l 0; links = q.links }

pub take_law : (n : ℕ) (w : List ℕ) (l : ℕ) → l < n * 2 → queues_of n (stored WATCH-COUNTS w l 0) ≡ taken (queues_of n w) l
unfolding queues_of taken
take_law n w l k = simp stores (rw (take-set-lt (n * 2) (region WATCH-COUNTS w) l 0 k))

pub take_own : (q : Queues) (l : ℕ) → l < length q.counts → queue (taken q l) l ≡ []
unfolding queue taken walk
take_own q l h = rw (get_or-set_same q.counts l 0 0 h)

pub take_other : (q : Queues) (l k : ℕ) → (k ≡ l → ⊥) → queue (taken q l) k ≡ queue q k
unfolding queue taken
take_other q l k h = rw (get_or-set_other q.counts l k 0 0 h)

-- ---- facts of the regions

pub lengths : (n : ℕ) (w : List ℕ) → LENT ≤ length w → n ≤ MOST-NODES
    → (length (queues_of n w).heads ≡ DOUBLE) × (length (queues_of n w).tails ≡ DOUBLE) × (length (queues_of n w).counts ≡ n * 2) × (length (queues_of n w).links ≡ CELLS)
unfolding queues_of
lengths n w h b = (
  length-region WATCH-HEADS w (omega arith),
  length-region WATCH-TAILS w (omega arith),
  length-take-le (n * 2) (region WATCH-COUNTS w) (omega (arith, length-region WATCH-COUNTS w (omega arith))),
  length-region LINKS w (omega arith),
)

pub queue-some : (q : Queues) (l : ℕ) → 0 < get_or q.counts l 0 → queue q l ≡ [] → ⊥
queue-some q l p e = let k : length (queue q l) ≡ 0 = ap length e in omega (arith, length-queue q l)

pub tails-pushed : (q : Queues) (l x : ℕ) → (pushed q l x).tails ≡ set q.tails l x
unfolding pushed
tails-pushed q l x = refl
