-- The clauses and the watch lists that lent words stand for, and what stores make of them. Assumes nothing.
use Rattle.std.specs.Prelude.{◌≡◌, refl, Bool, true, false, cond, ℕ, zero, suc, ◌+◌, ◌*◌, ◌/◌, ◌<◌, ◌≤◌, eqb, set, get_or, length}
use Rattle.std.proofs.Math.Path.{ap}
use mathlib.Core.List.{List, [], ◌∷◌, ◌++◌, map, map-append}
use Rattle.std.proofs.Common.{arith, eq-eqb, ne_eqb, eqb-true}
use Rattle.std.proofs.Math.Seq.{slice}
use Rattle.words.specs.Layout.{LENT, CELLS, MOST-NODES, WATCH-HEADS, WATCH-TAILS, WATCH-COUNTS, CLAUSE-STARTS, WATCHED, LINKS, LITERALS}
use Rattle.words.specs.Region.{region, stored}
use Rattle.model.specs.Lists.{snoc}
use Rattle.model.specs.Sat as Sat
use Rattle.model.specs.Sat.{Clause}
use Rattle.laws.specs.Search.State.{Apart}
use Rattle.clauses.specs.Tabulate.{tabulate, length-tabulate, get_or-tabulate, get_or-past, tabulate-same, tabulate-set}
use Rattle.clauses.specs.Queue.{Queues, HasRoom, queues_of, queue, walk, pushed, pushed_words, count-is, push_law, taken, take_law, take_own, take_other, lengths}
use Rattle.clauses.specs.Sound.{SoundQueues, ready, short, own, other, push_sound, push_pending, take-sound}

-- ---- THE ABSTRACTION

-- the literals of the clause with number i: they lie in the pool between its start and the next one's
unfoldable pub literals_of : List ℕ → ℕ → List ℕ
literals_of w i = slice (get_or (region CLAUSE-STARTS w) i 0) (get_or (region CLAUSE-STARTS w) (i + 1) 0) (region LITERALS w)

-- the first place of a literal in a clause; the clause's length where it is none of its literals
unfoldable pub place_in : ℕ → List ℕ → ℕ
place_in l [] = 0
place_in l (x ∷ xs) = cond (eqb x l) 0 (suc (place_in l xs))

-- the clause with number i: its two watched literals lie beside each other, and their places are the watched ones
unfoldable pub clause_at : List ℕ → ℕ → Clause
clause_at w i =
    record {
      literals = literals_of w i;
      watched = (place_in (get_or (region WATCHED w) (i * 2) 0) (literals_of w i), place_in (get_or (region WATCHED w) (i * 2 + 1) 0) (literals_of w i));
    }

-- a literal stands in a clause: at its place
abbrev pub Stands : ℕ → List ℕ → Type 0
Stands l ls = get_or ls (place_in l ls) 0 ≡ l

-- the first `count` clauses
unfoldable pub clauses_of : ℕ → List ℕ → List Clause
clauses_of count w = tabulate count (clause_at w)

-- the clause of a cell, which is twice its number plus a slot
abbrev pub half : ℕ → ℕ
half cell = cell / 2

-- the clauses of the queue of l
unfoldable pub watchers : Queues → ℕ → List ℕ
watchers q l = map half (queue q l)

-- the watch list of each literal of n variables
unfoldable pub watches_of : ℕ → List ℕ → List (List ℕ)
watches_of n w = tabulate (n * 2) (watchers (queues_of n w))

-- ---- queues in lent words

module _ (v : ℕ) (w : List ℕ) (h : LENT ≤ length w) (b : v ≤ MOST-NODES) (n : ℕ) (r : n ≤ CELLS) where
  -- a queue has room for one cell more
  pub queue-fits : (p : List ℕ) → SoundQueues (queues_of v w) n p → (l : ℕ) → l < v * 2 → HasRoom w l
  unfolding queues_of
  queue-fits p s l k =
      let f = lengths v w h b in
      record {
        near = omega arith;
        more = omega (arith, short (queues_of v w) n p s l, count-is v w l k);
        tail = λ c. omega (arith, (ready (queues_of v w) n p s l (omega (arith, f.3)) (omega (arith, f.0)) (omega (arith, f.2))).cell (omega (arith, count-is v w l k)), f.3);
      }

  module _ (l x : ℕ) (p : List ℕ) (s : SoundQueues (queues_of v w) n (x ∷ p)) (k : l < v * 2) where
    links_fit : n ≤ length (queues_of v w).links
    links_fit = omega (arith, (lengths v w h b).3)

    heads_fit : l < length (queues_of v w).heads
    heads_fit = omega (arith, (lengths v w h b).0)

    tails_fit : l < length (queues_of v w).tails
    tails_fit = omega (arith, (lengths v w h b).1)

    counts_fit : l < length (queues_of v w).counts
    counts_fit = omega (arith, (lengths v w h b).2)

    pub pushed-sound : SoundQueues (queues_of v (pushed_words w l x)) n p
    pushed-sound = rw (push_law v w l x k) (push_sound (queues_of v w) n l x p s links_fit heads_fit tails_fit counts_fit)

    pub pushed_pending : (m c : ℕ) → p ≡ walk (queues_of v w).links m c → walk (queues_of v (pushed_words w l x)).links m c ≡ p
    pushed_pending m c e = rw (push_law v w l x k) (push_pending (queues_of v w) n l x p s links_fit heads_fit tails_fit counts_fit m c e)

    others-kept : (i : ℕ) → (i ≡ l → ⊥) → watchers (pushed (queues_of v w) l x) i ≡ watchers (queues_of v w) i
    unfolding watchers
    others-kept i d = ap (λ (c : List ℕ). map half c) (other (queues_of v w) n l x p s links_fit heads_fit tails_fit counts_fit i d)

    own-grows : watchers (pushed (queues_of v w) l x) l ≡ watchers (queues_of v w) l ++ (half x ∷ [])
    unfolding watchers
    own-grows = rw (own (queues_of v w) n l x p s links_fit heads_fit tails_fit counts_fit, map-append)

    -- a pushed cell stands at the end of the watch list
    pub pushed-watches : watches_of v (pushed_words w l x) ≡ Sat.push_watch (watches_of v w) l (half x)
    unfolding watches_of Sat.push_watch snoc
    pushed-watches = rw (push_law v w l x k)
        (tabulate-set (v * 2) (watchers (queues_of v w)) (watchers (pushed (queues_of v w) l x)) l _
        (λ i m d. others-kept i d)
        (λ m. rw (get_or-tabulate (v * 2) (watchers (queues_of v w)) l [] m) own-grows))

  module _ (l : ℕ) (s : SoundQueues (queues_of v w) n []) (k : l < v * 2) where
    counts_reach : l < length (queues_of v w).counts
    counts_reach = omega (arith, (lengths v w h b).2)

    pub taken-sound : SoundQueues (queues_of v (stored WATCH-COUNTS w l 0)) n (queue (queues_of v w) l)
    taken-sound = rw (take_law v w l k) (take-sound (queues_of v w) n l s counts_reach)

    -- a taken queue leaves an empty watch list
    pub taken-watches : watches_of v (stored WATCH-COUNTS w l 0) ≡ set (watches_of v w) l []
    unfolding watches_of watchers
    taken-watches = rw (take_law v w l k)
        (tabulate-set (v * 2) (watchers (queues_of v w)) (watchers (taken (queues_of v w) l)) l []
        (λ i m d. rw (take_other (queues_of v w) l i d))
        (λ m. rw (take_own (queues_of v w) l counts_reach)))

-- the watch list of a literal
pub watch_list : (v : ℕ) (w : List ℕ) (l : ℕ) → l < v * 2 → get_or (watches_of v w) l [] ≡ map half (queue (queues_of v w) l)
unfolding watches_of watchers
watch_list v w l k = get_or-tabulate (v * 2) (watchers (queues_of v w)) l [] k

pub no_watch_list : (v : ℕ) (w : List ℕ) (l : ℕ) → v * 2 ≤ l → get_or (watches_of v w) l [] ≡ []
unfolding watches_of
no_watch_list v w l k = get_or-past (v * 2) (watchers (queues_of v w)) l [] k

pub length-watches : (v : ℕ) (w : List ℕ) → length (watches_of v w) ≡ v * 2
unfolding watches_of
length-watches v w = length-tabulate (v * 2) (watchers (queues_of v w))

-- ---- places of literals

-- a literal that stands in a list stands in a longer one
stands-next : (x : ℕ) (xs : List ℕ) (l : ℕ) → Stands l xs → Stands l (x ∷ xs)
unfolding place_in
stands-next x xs l s = go (eqb x l) refl
  where
    go : (b : Bool) → eqb x l ≡ b → get_or (x ∷ xs) (cond (eqb x l) 0 (suc (place_in l xs))) 0 ≡ l
    go true e = rw e (eqb-true x l e)
    go false e = rw e s

-- a literal of a clause stands in it
pub stands_at : (ls : List ℕ) (i : ℕ) → i < length ls → Stands (get_or ls i 0) ls
unfolding place_in
stands_at [] i h = absurd (omega arith)
stands_at (x ∷ xs) zero h = rw (eq-eqb x x refl)
stands_at (x ∷ xs) (suc i) h = stands-next x xs (get_or xs i 0) (stands_at xs i (omega arith))

-- the place of a literal of a clause whose literals are distinct
pub place_at : (ls : List ℕ) → Apart ls → (i : ℕ) → i < length ls → place_in (get_or ls i 0) ls ≡ i
unfolding place_in
place_at [] a i h = absurd (omega arith)
place_at (x ∷ xs) a zero h = rw (eq-eqb x x refl)
place_at (x ∷ xs) a (suc i) h =
    rw (ne_eqb x (get_or xs i 0) (a 0 (suc i) (λ e. omega arith) (omega arith) h))
    (ap suc (place_at xs (λ j k d p q. a (suc j) (suc k) (λ e. d (omega arith)) (omega arith) (omega arith)) i (omega arith)))

-- ---- clauses in lent words

pub length-clauses : (n : ℕ) (w : List ℕ) → length (clauses_of n w) ≡ n
unfolding clauses_of
length-clauses n w = length-tabulate n (clause_at w)

pub clause-is : (n : ℕ) (w : List ℕ) (i : ℕ) (c : Clause) → i < n → get_or (clauses_of n w) i c ≡ clause_at w i
unfolding clauses_of
clause-is n w i c k = get_or-tabulate n (clause_at w) i c k

-- the clauses depend on three regions alone
pub same-clauses : (n : ℕ) (u w : List ℕ) → region CLAUSE-STARTS u ≡ region CLAUSE-STARTS w → region WATCHED u ≡ region WATCHED w → region LITERALS u ≡ region LITERALS w → clauses_of n u ≡ clauses_of n w
unfolding clauses_of clause_at literals_of
same-clauses n u w a b c = tabulate-same n (clause_at u) (clause_at w) (λ i k. rw (a, b, c))

pub same-literals : (u w : List ℕ) → region CLAUSE-STARTS u ≡ region CLAUSE-STARTS w → region LITERALS u ≡ region LITERALS w → (i : ℕ) → literals_of u i ≡ literals_of w i
unfolding literals_of
same-literals u w a b i = rw (a, b)

-- and the watch lists on four
pub same-queues : (v : ℕ) (u w : List ℕ) → region WATCH-HEADS u ≡ region WATCH-HEADS w → region WATCH-TAILS u ≡ region WATCH-TAILS w → region WATCH-COUNTS u ≡ region WATCH-COUNTS w → region LINKS u ≡ region LINKS w
    → queues_of v u ≡ queues_of v w
unfolding queues_of
same-queues v u w a b c d = rw (a, b, c, d)

pub same-watches : (v : ℕ) (u w : List ℕ) → queues_of v u ≡ queues_of v w → watches_of v u ≡ watches_of v w
unfolding watches_of
same-watches v u w e = rw e
