-- Laws of a graph rebuilt from words and of the answer of its search. Assumes nothing.
use Rattle.std.specs.Prelude.{◌≡◌, Bool, ◌&&◌, cond, List, [], ◌∷◌, ℕ, zero, suc, ◌+◌, ◌-◌, ◌*◌, ◌/◌, ◌%◌, ◌≤◌, ◌<◌, get_or, drop, Float, ltb}
use Rattle.std.proofs.Math.Path.{refl, ap, sym}
use Rattle.std.proofs.Common.{subst, ◌∙◌, arith, zero-add, suc-add, add-one, drop_of_length-le, drop-cons}
use Rattle.std.proofs.Math.Bool.{true, false}
use Rattle.std.proofs.lemmas.Bool.{false≢true}
use Rattle.std.proofs.Math.Option.{Option, none, some}
use Rattle.std.proofs.Math.ListN.{length}
use Rattle.std.proofs.Math.Seq.{take-length}
use Rattle.std.proofs.Math.Dec.{eqb, leb}
use borrow.Author.Tests.{lt-ltb, le-ltb, ltb-true, eqb-true, eqb-false, leb-true, leb-false}
use Rattle.words.specs.Layout.{LENT, MOST-NODES, MOST-LEARNED}
use Rattle.model.specs.Literal.{node}
use Rattle.model.specs.Aig.{Aig, Built, new, variable, and}
use Rattle.model.specs.Sat as Sat
use Rattle.facts.specs.Bools.{and_left, and_right}
use Rattle.laws.specs.Graph.Operations.{Formed, variable_means, and_means}
use Rattle.aig.specs.Graph.{graph_of, length-graph}
use Rattle.aig.specs.Made.{Ready, Made}
use Rattle.aig.specs.declared.Aig.{Aig as Counted}
use Rattle.sat.specs.StartLaws.{Solvable, Solves}
use Rattle.sat.specs.GraphLaws.{holds-ready, gates-ready}
use Rattle.sat.specs.declared.state.Answer.{Answer}
use Rattle.solver.specs.Query.{with_node, extended, rebuilt, all_below, within, Fits, searched, answer, size_of, size, status_of, answered, Standing, Extends, Rebuilding, Searchable, Numbered}
use Rattle.solver.specs.declared.SolveAnswer.{SolveAnswer}
use Rattle.std.specs.Prelude as Std

-- ---- one node more

both_zero : (l r : ℕ) → (l ≡ 0 → r ≡ 0 → ⊥) → (eqb l 0 && eqb r 0) ≡ false
both_zero l r h = go (eqb l 0) (eqb r 0) refl refl
  where
    go : (s t : Bool) → eqb l 0 ≡ s → eqb r 0 ≡ t → (s && t) ≡ false
    go false t p q = refl
    go true false p q = refl
    go true true p q = absurd (h (eqb-true l 0 p) (eqb-true r 0 q))

module _ (n : ℕ) (w : List ℕ) (s : Standing n w) (n' : ℕ) (w' : List ℕ) (k : ℕ) where
  -- the graph of what was made
  graph_is : (m : Built) → Made 1 n w n' w' k m → graph_of n' w' ≡ m.aig
  graph_is m d = ap (λ (b : Built). b.aig) d.built

  extends : (l r : ℕ) (m : Built) → Made 1 n w n' w' k m → m.aig ≡ with_node (graph_of n w) l r → Formed m.aig → Extends n w l r n' w'
  extends l r m d e f =
      record {
        is = graph_is m d ∙ e;
        standing = record { ready = d.ready; formed = subst Formed (sym (graph_is m d)) f };
        few = d.within;
        long = d.ready.long;
      }

  -- a variable
  pub extends_variable : (l r : ℕ) → l ≡ 0 → r ≡ 0 → Made 1 n w n' w' k (variable (graph_of n w)) → Extends n w l r n' w'
  unfolding with_node
  extends_variable l r p q d =
      extends l r (variable (graph_of n w)) d (rw (p, q)) (variable_means (λ _. false) (graph_of n w) s.formed).formed

  -- a conjunction
  pub extends_and : (l r : ℕ) → (l ≡ 0 → r ≡ 0 → ⊥) → l < n * 2 → r < n * 2 → Made 1 n w n' w' k (and (graph_of n w) l r) → Extends n w l r n' w'
  unfolding with_node node
  extends_and l r h p q d =
      let z : length (graph_of n w) ≡ n = length-graph n w in
      extends l r (and (graph_of n w) l r) d (rw (both_zero l r h))
      (and_means (λ _. false) (graph_of n w) s.formed l r (omega arith) (omega arith)).formed

-- ---- the nodes in order

-- the words hold the graph of the first i pairs
pub record Partly (ls : List ℕ) (i n : ℕ) (w : List ℕ) : Type 0 where
  pub standing : Standing n w
  pub few : n ≤ i + 1
  pub is : some (graph_of n w) ≡ rebuilt i ls

-- no pair yet
pub partly_none : (ls : List ℕ) (n : ℕ) (w : List ℕ) → n ≡ 1 → graph_of 1 w ≡ new → Ready 1 w → Partly ls 0 n w
unfolding rebuilt new
partly_none ls n w e g r =
    let start : Standing 1 w =
    record {
      ready = r;
      formed = subst Formed (sym g) (record { order = (tt, tt); grounding = refl });
    } in
    record { standing = subst (λ (m : ℕ). Standing m w) (sym e) start; few = omega arith; is = rw e (ap some g) }

both_below : (l r b : ℕ) → l < b → r < b → (ltb l b && ltb r b) ≡ true
both_below l r b p q = rw (lt-ltb l b p, lt-ltb r b q)

-- one pair more
pub partly_more : (ls : List ℕ) (i n : ℕ) (w : List ℕ) → Partly ls i n w → (l r : ℕ) → l ≡ get_or ls (i * 2) 0 → r ≡ get_or ls (i * 2 + 1) 0
    → l < n * 2 → r < n * 2 → (n' : ℕ) (w' : List ℕ) → Extends n w l r n' w' → Partly ls (i + 1) n' w'
unfolding rebuilt extended
partly_more ls i n w p l r a b h k n' w' e =
    let z : length (graph_of n w) ≡ n = length-graph n w in
    record {
      standing = e.standing;
      few = omega (arith, e.few, p.few);
      is =
          rw (add-one, ← p.is, ← a, ← b, both_below l r (length (graph_of n w) * 2) (omega arith) (omega arith)) (ap some e.is);
    }

-- none stays none
none_stays : (ls : List ℕ) (i k : ℕ) → rebuilt i ls ≡ none → rebuilt (k + i) ls ≡ none
unfolding rebuilt extended
none_stays ls i zero e = rw zero-add e
none_stays ls i (suc k) e = rw (suc-add, none_stays ls i k e)

past-below : (l r b : ℕ) → (l < b → r < b → ⊥) → (ltb l b && ltb r b) ≡ false
past-below l r b h = go (ltb l b) (ltb r b) refl refl
  where
    go : (s t : Bool) → ltb l b ≡ s → ltb r b ≡ t → (s && t) ≡ false
    go false t p q = refl
    go true false p q = refl
    go true true p q = absurd (h (ltb-true l b p) (ltb-true r b q))

-- a literal of no earlier node
pub partly_refused : (ls : List ℕ) (i n : ℕ) (w : List ℕ) → Partly ls i n w → (l r : ℕ) → l ≡ get_or ls (i * 2) 0 → r ≡ get_or ls (i * 2 + 1) 0
    → (l < n * 2 → r < n * 2 → ⊥) → (count : ℕ) → i < count → none ≡ rebuilt count ls
unfolding rebuilt extended
partly_refused ls i n w p l r a b h count k =
    let z : length (graph_of n w) ≡ n = length-graph n w in
    let e : rebuilt (suc i) ls ≡ none =
    rw (← p.is, ← a, ← b, past-below l r (length (graph_of n w) * 2) (λ x y. h (omega arith) (omega arith))) refl in
    let m : count ≡ (count - suc i) + suc i = omega arith in
    sym (ap (λ (j : ℕ). rebuilt j ls) m ∙ none_stays ls (suc i) (count - suc i) e)

-- the list is refused
pub refused : {count : ℕ} {ls w : List ℕ} → none ≡ rebuilt count ls → LENT ≤ length w → Rebuilding count ls Std.None w
refused e h = record { is = e; standing = tt; long = h }

-- all pairs are passed
pub rebuilt-all : (ls : List ℕ) (i count : ℕ) (a : Counted) (w : List ℕ) → Partly ls i a.count w → i ≡ count → a.count ≤ MOST-NODES → Rebuilding count ls (Std.Some a) w
rebuilt-all ls i count a w p e h =
    record { is = p.is ∙ ap (λ (k : ℕ). rebuilt k ls) e; standing = (p.standing, h); long = p.standing.ready.long }

-- what was rebuilt, by its variant
pub unbuilt : (count : ℕ) (ls : List ℕ) (r : Std.Option Counted) (w : List ℕ) → Rebuilding count ls r w → r ≡ Std.None → none ≡ rebuilt count ls
unbuilt count ls r w h e = (rw e at h).is

pub built : (count : ℕ) (ls : List ℕ) (r : Std.Option Counted) (w : List ℕ) → Rebuilding count ls r w → (a : Counted) → r ≡ Std.Some a → Rebuilding count ls (Std.Some a) w
built count ls r w h a e = rw e at h

-- ---- what a call asks

module _ (n a l w x : ℕ) where
  -- the tests are the facts
  by_tests : (P : Bool → Type 0) → (Fits n a l w x → P true) → ((Fits n a l w x → ⊥) → P false) → P (within n a l w x)
  unfolding within
  by_tests P all not-all = go (eqb (n % 2) 0) (leb n 131070) (leb a 65535) (leb l MOST-LEARNED) (leb LENT w) (leb MOST-NODES x) refl refl refl refl refl refl
    where
      go : (q r s t u v : Bool) → eqb (n % 2) 0 ≡ q → leb n 131070 ≡ r → leb a 65535 ≡ s → leb l MOST-LEARNED ≡ t → leb LENT w ≡ u → leb MOST-NODES x ≡ v
          → P (q && (r && (s && (t && (u && v)))))
      go false r s t u v d e f g h i = not-all (λ k. eqb-false (n % 2) 0 d k.even)
      go true false s t u v d e f g h i = not-all (λ k. omega (arith, leb-false n 131070 e, k.nodes_few))
      go true true false t u v d e f g h i = not-all (λ k. omega (arith, leb-false a 65535 f, k.assumptions_few))
      go true true true false u v d e f g h i = not-all (λ k. omega (arith, leb-false l MOST-LEARNED g, k.limited))
      go true true true true false v d e f g h i = not-all (λ k. omega (arith, leb-false LENT w h, k.words_long))
      go true true true true true false d e f g h i = not-all (λ k. omega (arith, leb-false MOST-NODES x i, k.scores_long))
      go true true true true true true d e f g h i =
          all
          (record {
            even = eqb-true (n % 2) 0 d;
            nodes_few = leb-true n 131070 e;
            assumptions_few = leb-true a 65535 f;
            limited = leb-true l MOST-LEARNED g;
            words_long = leb-true LENT w h;
            scores_long = leb-true MOST-NODES x i;
          })

  pub fits_not : (Fits n a l w x → ⊥) → false ≡ within n a l w x
  fits_not h = by_tests (λ (t : Bool). false ≡ t) (λ k. absurd (h k)) (λ _. refl)

  pub fits-yes : Fits n a l w x → true ≡ within n a l w x
  fits-yes h = by_tests (λ (t : Bool). true ≡ t) (λ _. refl) (λ k. absurd (k h))

  pub within-fits : within n a l w x ≡ true → Fits n a l w x
  within-fits = by_tests (λ (t : Bool). t ≡ true → Fits n a l w x) (λ k _. k) (λ _ e. absurd (false≢true e))

-- ---- assumptions

-- a literal past the bound
pub below_stop : (b : ℕ) (ls : List ℕ) (i : ℕ) → i < length ls → b ≤ get_or ls i 0 → all_below b (drop i ls) ≡ false
unfolding all_below
below_stop b ls i h e = rw (drop-cons ls i 0, le-ltb (get_or ls i 0) b e)

-- one below it
pub below_more : (b : ℕ) (ls : List ℕ) (i : ℕ) → i < length ls → get_or ls i 0 < b → all_below b (drop i ls) ≡ all_below b (drop (i + 1) ls)
unfolding all_below
below_more b ls i h e = rw (add-one, drop-cons ls i 0, lt-ltb (get_or ls i 0) b e)

-- no literal is left
pub below-done : (b : ℕ) (ls : List ℕ) (i : ℕ) → length ls ≤ i → all_below b (drop i ls) ≡ true
unfolding all_below
below-done b ls i h = rw drop_of_length-le

-- all are below it
pub below_at : (b : ℕ) (ls : List ℕ) → all_below b ls ≡ true → (i : ℕ) → i < length ls → get_or ls i 0 < b
unfolding all_below
below_at b [] e i h = absurd (omega arith)
below_at b (l ∷ ls) e zero h = ltb-true l b (and_left (ltb l b) (all_below b ls) e)
below_at b (l ∷ ls) e (suc i) h = below_at b ls (and_right (ltb l b) (all_below b ls) e) i (omega arith)

-- ---- the search

-- the numbers of a refused call
refused-number : (r : SolveAnswer) (w : List ℕ) → r.status ≡ 3 → answered r w ≡ none
unfolding status_of
refused-number r w e = rw e

module _ (limit n : ℕ) (w : List ℕ) (x : List Float) (given : List ℕ) where
  abbrev bound : ℕ
  bound = n * 2

  searched-is : (t : Bool) → all_below bound given ≡ t → searched limit given (some (graph_of n w)) ≡ cond t (some (Sat.solve limit (graph_of n w) given)) none
  unfolding searched
  searched-is t e = rw (length-graph n w, e)

  -- an assumption is no literal of the graph
  pub search_refused : all_below bound given ≡ false → (r : SolveAnswer) (w' : List ℕ) → r.status ≡ 3 → answered r w' ≡ searched limit given (some (graph_of n w))
  search_refused e r w' q = refused-number r w' q ∙ sym (searched-is false e)

  module _ (h : Searchable limit n w x given) (e : all_below bound given ≡ true) where
    -- what `solve` asks
    pub search_asked : Solvable limit n w x given (length given)
    search_asked =
        record {
          encodable =
              record {
                words = h.standing.ready.long;
                some = h.standing.ready.positive;
                variables = h.few;
                scores = omega (arith, h.few, h.scores);
                gates = gates-ready n w h.standing.ready;
                listed = omega arith;
                few = omega (arith, h.assumed);
                range = below_at bound given e;
              };
          few = omega (arith, h.assumed);
          limited = h.limited;
          graph = graph_of n w;
          holds = holds-ready n w;
          formed = h.standing.formed;
        }

    -- the answer
    pub search_answered : (a : Answer) (w' : List ℕ) (x' : List Float) → Solves limit n w x given (length given) a w' x' → (r : SolveAnswer) → Numbered a n r
        → answered r w' ≡ searched limit given (some (graph_of n w))
    search_answered a w' x' s r q =
        q.is w' ∙ ap some (s.is (graph_of n w) (holds-ready n w) ∙ ap (Sat.solve limit (graph_of n w)) (take-length given)) ∙ sym (searched-is true e)

-- ---- the call

module _ (limit : ℕ) (ls given : List ℕ) (words scores : ℕ) where
  abbrev test : Bool
  test = within (length ls) (length given) limit words scores

  abbrev goal : Option Sat.Answer
  goal = answer limit ls given words scores

  answer-is : (t : Bool) → test ≡ t → goal ≡ cond t (searched limit given (rebuilt (length ls / 2) ls)) none
  unfolding answer
  answer-is t e = rw e

  -- a length or the limit is refused
  pub call-refused : test ≡ false → (r : SolveAnswer) (w' : List ℕ) → r.status ≡ 3 → answered r w' ≡ goal
  call-refused e r w' q = refused-number r w' q ∙ sym (answer-is false e)

  module _ (e : test ≡ true) where
    -- the list of nodes is refused
    pub call_unbuilt : none ≡ rebuilt (length ls / 2) ls → (r : SolveAnswer) (w' : List ℕ) → r.status ≡ 3 → answered r w' ≡ goal
    unfolding searched
    call_unbuilt b r w' q = refused-number r w' q ∙ sym (answer-is true e ∙ ap (searched limit given) (sym b))

    -- the graph is searched
    pub call-searched : (g : Aig) → some g ≡ rebuilt (length ls / 2) ls → (z : Option Sat.Answer) → z ≡ searched limit given (some g) → z ≡ goal
    call-searched g b z q = q ∙ sym (answer-is true e ∙ ap (searched limit given) (sym b))

-- ---- the size alone

module _ (ls : List ℕ) (words : ℕ) where
  pub size_is : (t : Bool) → within (length ls) 0 0 words MOST-NODES ≡ t → cond t (size_of (rebuilt (length ls / 2) ls)) 0 ≡ size ls words
  unfolding size
  size_is t e = rw e

  module _ (e : within (length ls) 0 0 words MOST-NODES ≡ true) where
    pub size_unbuilt : none ≡ rebuilt (length ls / 2) ls → 0 ≡ size ls words
    size_unbuilt b = ap size_of b ∙ size_is true e

    pub size-built : (n : ℕ) (w : List ℕ) → some (graph_of n w) ≡ rebuilt (length ls / 2) ls → n ≡ size ls words
    size-built n w b = sym (length-graph n w) ∙ ap size_of b ∙ size_is true e
