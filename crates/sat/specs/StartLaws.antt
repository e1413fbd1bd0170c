-- Laws of the whole search: from the encoding of a graph and its assumptions to the definition's answer. Assumes nothing.
use Rattle.std.specs.Prelude.{◌≡◌, true, false, List, [], ◌∷◌, ℕ, ◌+◌, ◌*◌, ◌<◌, ◌≤◌, take, get_or, Float}
use Rattle.std.specs.Prelude as Std
use Rattle.std.proofs.Math.Path.{refl, ap}
use Rattle.std.proofs.Common.{sym, ◌∙◌, arith, mul-le-mul, get_or-take}
use Rattle.std.proofs.Math.Option.{Option, none, some}
use Rattle.std.proofs.Math.ListN.{length}
use Rattle.std.proofs.lemmas.List.{get_or-replicate}
use Rattle.std.proofs.Math.Seq.{length-take-le}
use Rattle.words.specs.Layout.{LENT, MOST-NODES, MOST-LEARNED, SEEN, BLOCKS}
use Rattle.words.specs.Region.{region, cleared, length-cleared}
use Rattle.model.specs.Aig.{Node}
use Rattle.model.specs.Literal.{Literal, node}
use Rattle.model.specs.Sat as Sat
use Rattle.facts.specs.Lists.{All, all_from}
use Rattle.laws.specs.Terms.{Reached, begun}
use Rattle.laws.specs.Graph.Operations.{Formed}
use Rattle.laws.specs.Search.Ending.{solve-not_out}
use Rattle.laws.proofs.Search.Reachable.{reached-idle}
use Rattle.assignment.specs.State.{assignment_of, assignment_regions, enqueued, Unchanged, Cleared}
use Rattle.assignment.specs.Scores.{scores_of, Others, Starts}
use Rattle.assignment.specs.StateLaws.{unchanged_both, unchanged_within}
use Rattle.assignment.specs.declared.state.Activity.{Activity}
use Rattle.assignment.specs.DecideLaws.{clears}
use Rattle.assignment.specs.KnownLaws.{cached-kept, cached-grown}
use Rattle.assignment.specs.OrderLaws.{one-unsigned}
use Rattle.assignment.specs.declared.state.Trail.{Trail}
use Rattle.clauses.specs.Clauses.{clauses_of, watches_of}
use Rattle.clauses.specs.State.{solver_of, scored, flagged, encoded_of, Encodable, Encodes, Holds, encode_regions}
use Rattle.clauses.specs.KeptLaws.{sound-kept, solver_kept}
use Rattle.clauses.specs.StepLaws.{assigned_clauses, assigned_queues}
use Rattle.clauses.specs.declared.state.Encoded.{Encoded}
use Rattle.watches.specs.State.{UnitStep}
use Rattle.laws.specs.Search.Adding.{search_answered}
use Rattle.assignment.specs.ScoreLaws.{others-both}
use Rattle.sat.specs.State.{base_of, state_of, Fits, Marks, solve_regions}
use Rattle.sat.specs.SolveLaws.{search_answer, ran_from, Searchable, Searches}
use Rattle.sat.specs.declared.state.State.{State}
use Rattle.sat.specs.declared.state.Answer.{Answer}
use Rattle.sat.specs.declared.state.Answer.TheVariants as Answers

-- what `solve` asks of a graph of n nodes and its assumptions
pub record Solvable (limit n : ℕ) (w : List ℕ) (x : List Float) (ls : List ℕ) (count : ℕ) : Type 0 where
  pub encodable : Encodable n w x ls count
  pub few : count < MOST-NODES
  pub limited : limit ≤ MOST-LEARNED
  pub graph : List Node
  pub holds : Holds n w graph
  pub formed : Formed graph

-- of `solve`: the answer is the definition's, for every graph that the words hold
pub record Solves (limit n : ℕ) (w : List ℕ) (x : List Float) (ls : List ℕ) (count : ℕ) (r : Answer) (w' : List ℕ) (x' : List Float) : Type 0 where
  pub is : (g : List Node) → Holds n w g → search_answer n r w' ≡ Sat.solve limit g (take count ls)
  pub others : Others n x x'
  pub frame : Unchanged solve_regions w w'

-- the rounds fit a word
pub rounds_fit : (limit n : ℕ) → limit ≤ MOST-LEARNED → n ≤ MOST-NODES → (limit + 2) * (n + 2) ≤ (MOST-LEARNED + 2) * (MOST-NODES + 2)
rounds_fit limit n a b = mul-le-mul {n₁ = limit + 2} {m₁ = n + 2} {n₂ = MOST-LEARNED + 2} {m₂ = MOST-NODES + 2} (omega arith) (omega arith)

module _ (limit n : ℕ) (w : List ℕ) (x : List Float) (ls : List ℕ) (count : ℕ) (h : Solvable limit n w x ls count) (r : Encoded) (w₁ : List ℕ) (x₁ : List Float) (E : Encodes n w x ls count r w₁ x₁) where
  -- the assumptions
  abbrev given : List ℕ
  given = take count ls

  -- the encoded solver
  abbrev Z : Sat.Solver
  Z = encoded_of (Sat.new n) r.encoding r.trail w₁ x₁

  -- the definition's answer by the encoded solver
  solve-is : (g : List Node) → Holds n w g → Sat.solve limit g given ≡ Sat.search_rounds limit ((limit + 2) * (n + 2)) (Sat.start Z)
  unfolding Sat.solve Sat.rounds
  solve-is g k =
      ap (λ (m : ℕ). Sat.search_rounds limit ((limit + 2) * (m + 2)) (Sat.start (Sat.encode g given))) k.size
      ∙ ap (λ (u : Sat.Solver). Sat.search_rounds limit ((limit + 2) * (n + 2)) (Sat.start u)) (sym (E.is g k))

  -- an answer before the first round
  at_once : (a : Sat.Answer) → Sat.start Z ≡ Sat.answered a → (g : List Node) → Holds n w g → a ≡ Sat.solve limit g given
  at_once a e g k = sym (solve-is g k ∙ ap (Sat.search_rounds limit ((limit + 2) * (n + 2))) e ∙ search_answered limit ((limit + 2) * (n + 2)) a)

  frame₁ : Unchanged solve_regions w w₁
  frame₁ = unchanged_within encode_regions solve_regions refl E.frame

  -- an assumption is FALSE
  pub solve-inconsistent : r.encoding.inconsistent ≡ true → Solves limit n w x ls count (Answers.NoModel 0) w₁ x₁
  unfolding Sat.start Sat.start_unless encoded_of solver_of flagged scored Sat.new
  solve-inconsistent e = record { is = at_once (Sat.no_model 0) (ap (Sat.start_unless Z) e); others = E.others; frame = frame₁ }

  module _ (consistent : r.encoding.inconsistent ≡ false) (v : Trail) (w₂ : List ℕ) (U : UnitStep r.encoding.store r.trail w₁ v w₂) where
    start_is : (o : Option Sat.Assignment) → o ≡ Sat.initialize_units 0 (clauses_of r.encoding.store.clauses w₁) (some (assignment_of r.trail w₁)) → Sat.start Z ≡ Sat.after_enqueue Z o
    unfolding Sat.start Sat.start_unless encoded_of solver_of flagged scored
    start_is o q = ap (Sat.start_unless Z) consistent ∙ ap (Sat.after_enqueue Z) (sym q)

    frame₂ : Unchanged solve_regions w w₂
    frame₂ = unchanged_both solve_regions frame₁ (unchanged_within assignment_regions solve_regions refl U.frame)

    -- two unit clauses are opposite
    pub solve_opposite : enqueued (Std.Err v) w₂ ≡ Sat.initialize_units 0 (clauses_of r.encoding.store.clauses w₁) (some (assignment_of r.trail w₁)) → Solves limit n w x ls count (Answers.NoModel 0) w₂ x₁
    unfolding Sat.after_enqueue enqueued encoded_of solver_of flagged scored Sat.new
    solve_opposite q =
        record {
          is = at_once (Sat.no_model 0) (start_is none q);
          others = E.others;
          frame = frame₂;
        }

    module _ (q : enqueued (Std.Ok v) w₂ ≡ Sat.initialize_units 0 (clauses_of r.encoding.store.clauses w₁) (some (assignment_of r.trail w₁))) (w₃ : List ℕ) (cleared-is : w₃ ≡ cleared SEEN w₂ n) (words : LENT ≤ length w₃) (a : Activity) (A : Starts a) where
      -- the marks of the search before are cleared
      C : Cleared SEEN n w₂ w₃
      C = clears SEEN n w₂ w₃ (omega (arith, h.encodable.variables)) (omega (arith, U.sound.formed.ready.words)) cleared-is words

      long : length w₃ ≡ length w₂
      long = ap length cleared-is ∙ length-cleared SEEN w₂ n

      -- the state before the first round
      abbrev first : State
      first = record { store = r.encoding.store; trail = v; activity = a; learned = 0 }

      variables_are : v.variables ≡ n
      variables_are = U.variables ∙ E.variables

      units_are : state_of first w₂ x₁ ≡ Sat.with_assignment Z (assignment_of v w₂)
      unfolding state_of base_of scores_of solver_of encoded_of flagged scored Sat.new Sat.with_assignment watches_of
      units_are = rw (assigned_clauses r.encoding.store.clauses w₁ w₂ U.frame, U.variables, assigned_queues r.trail.variables w₁ w₂ U.frame, A.increment, consistent)

      -- the marks are no part of it
      first-is : state_of first w₃ x₁ ≡ Sat.with_assignment Z (assignment_of v w₂)
      unfolding state_of
      first-is = solver_kept (SEEN ∷ []) refl r.encoding.store v w₂ w₃ C.frame (base_of first x₁) ∙ units_are

      begins : Sat.start Z ≡ Sat.searching (state_of first w₃ x₁)
      unfolding Sat.after_enqueue enqueued
      begins = start_is (some (assignment_of v w₂)) q ∙ ap Sat.searching (sym first-is)

      reached : Reached limit h.graph given (state_of first w₃ x₁)
      reached = begun (ap Sat.start (sym (E.is h.graph h.holds)) ∙ begins)

      -- the assumptions are literals of the graph
      inside : All (λ (l : Literal). node l < length h.graph) given
      unfolding node
      inside =
          all_from (λ (l : Literal). node l < length h.graph) given
          (λ i k.
          let m : i < count = omega (arith, length-take-le count ls h.encodable.listed) in
          rw (get_or-take count ls i 0 m, h.holds.size) (omega (arith, h.encodable.range i m)))

      first_fits : Fits limit first w₃ x₁
      first_fits =
          record {
            sound = sound-kept (SEEN ∷ []) refl r.encoding.store v w₂ w₃ C.frame [] long U.sound;
            scores = omega (arith, variables_are, h.encodable.scores, E.others.long);
            fixed = A.fixed;
            limited = h.limited;
            total = omega arith;
            clauses = omega (arith, E.clauses, h.encodable.variables, h.few);
            literals = omega (arith, E.literals, h.encodable.variables, h.few);
            cached =
                cached-kept (SEEN ∷ []) v a x₁ refl C.frame
                (cached-grown r.trail w₁ v w₂ a x₁ U.variables (U.frame.same BLOCKS refl) U.grows (E.cached a (rw A.increment one-unsigned)));
          }

      -- nothing is marked
      first_marks : Marks r.encoding.store.clauses first w₃
      first_marks = λ v k.
          let m : v < n = omega (arith, variables_are) in
          omega (arith, sym (get_or-take n (region SEEN w₃) v 0 m) ∙ ap (λ (xs : List ℕ). get_or xs v 0) C.zeros ∙ get_or-replicate n v 0 0 m)

      same-run : (g : List Node) → Holds n w g → Sat.solve limit g given ≡ ran_from limit ((limit + 2) * (n + 2)) first w₃ x₁
      same-run g k = solve-is g k ∙ ap (Sat.search_rounds limit ((limit + 2) * (n + 2))) begins

      -- what `search` asks
      pub search_asked : Searchable limit first w₃ x₁ ((limit + 2) * (n + 2))
      search_asked =
          record {
            going =
                record {
                  fits = first_fits;
                  marks = first_marks;
                  graph = h.graph;
                  assumptions = given;
                  size = h.holds.size ∙ sym variables_are;
                  idle = (reached-idle limit h.graph h.formed given inside (state_of first w₃ x₁) reached).0;
                };
            ends = λ k e. solve-not_out limit h.graph h.formed given inside k (same-run h.graph h.holds ∙ e);
          }

      pub solved : (z : Answer) (w' : List ℕ) (x' : List Float) → Searches limit first w₃ x₁ ((limit + 2) * (n + 2)) z w' x' → Solves limit n w x ls count z w' x'
      solved z w' x' s =
          record {
            is = λ g k. ap (λ (m : ℕ). search_answer m z w') (sym variables_are) ∙ s.is ∙ sym (same-run g k);
            others = others-both n E.others (rw variables_are at s.others);
            frame = unchanged_both solve_regions frame₂ (unchanged_both solve_regions (unchanged_within (SEEN ∷ []) solve_regions refl C.frame) s.frame);
          }
