-- A system against itself: the three queries asked at depth 1 have no model and learn nothing, so it is Equivalent at depth 1. Assumes nothing.
use Prim.Native.Nat.{ℕ, zero, suc, ◌≤◌}
use Rattle.std.proofs.Common.{arith, ◌∙◌}
use Rattle.std.specs.Prelude.{◌≡◌, Bool, length}
use Rattle.std.proofs.Math.Path.{refl, sym, ap}
use Rattle.std.proofs.Math.Bool.{true, false}
use mathlib.Core.List.{List, [], ◌∷◌, ◌++◌, append_assoc, append-nil}
use Rattle.std.proofs.Math.Option.{Option, some}
use Rattle.model.specs.Answers.{Asked}
use Rattle.model.specs.Literal.{Literal, FALSE}
use Rattle.model.specs.Lists.{snoc, zip}
use Rattle.model.specs.Aig.{Aig, Built, new}
use Rattle.model.specs.Sat.{no_model}
use Rattle.model.specs.Options.{Options}
use Rattle.model.specs.Names.{Name}
use Rattle.model.specs.Netlist.{Register, Design}
use Rattle.model.specs.Run.{StoredBits, by_name}
use Rattle.model.specs.Transition.{StateBit, TransitionSystem, Lowering, Registers, with_state, lower_register, lower_registers, system_of, with_registers, from_netlist}
use Rattle.model.specs.Equivalence.{Problem, Frame, LiteralList, new_variables, state_literal, cons_pair, named_pairs, or_mismatch, compare_named_state, compare_outputs, Cycle, import_frames, cycle_of, compared_cycle, Base, base_start, base_query, counterexample_next, counterexample_compared, counterexample_cycle, counterexample_cycles, base_counterexample, named_state_next, named_state_compared, named_state_cycle, named_state_cycles, base_preserves_named_state, Induction, gate_variable, matched, gate_variables, free_product_state, cycle_mismatch, assumed, induction_next, induction_compared, induction_cycle, induction_cycles, induction_query, induction_closes, ask, Verdict, Equivalent, undecided, decided, asked_too, after_query3, after_query2, after_query1, query1, at_depth, depths, after_query0, query0, before_query1, prove_sequential_equivalence}
use Rattle.laws.specs.Queries.Bits.{literals-length}
use Rattle.laws.specs.Graph.Import.{frame_again, or-false, Alike, compare_alike}
use Rattle.laws.specs.Search.Adding.{solve-false}
use Rattle.laws.specs.Names.Order.{same_refl}
use Rattle.laws.specs.Names.Sorting.{Apart, Distinct, names_by, distinct-sort}
use Rattle.model.specs.Check.{problem_of, check_designs}

-- the name of a state
abbrev state_name : StateBit → Name
state_name s = s.name

-- no two states have one name
abbrev pub DistinctNames : List StateBit → Type 0
DistinctNames ss = Distinct (names_by state_name ss)

-- each state's literal is the one found by its name among others
abbrev Found : List StateBit → List Literal → List StateBit → List Literal → Type 0
Found [] ls S L = Unit {0}
Found (s ∷ ss) [] S L = Unit {0}
Found (s ∷ ss) (l ∷ ls) S L = (state_literal s.name S L ≡ some l) × Found ss ls S L

found_front : (t : StateBit) (k : Literal) (ss : List StateBit) (ls : List Literal) (S : List StateBit) (L : List Literal)
    → Apart t.name (names_by state_name ss) → Found ss ls S L → Found ss ls (t ∷ S) (k ∷ L)
unfolding state_literal
found_front t k [] ls S L a h = tt
found_front t k (s ∷ ss) [] S L a h = tt
found_front t k (s ∷ ss) (l ∷ ls) S L a h = (rw a.0 h.0, found_front t k ss ls S L a.1 h.1)

found-self : (ss : List StateBit) (ls : List Literal) → DistinctNames ss → Found ss ls ss ls
unfolding state_literal
found-self [] ls d = tt
found-self (s ∷ ss) [] d = tt
found-self (s ∷ ss) (l ∷ ls) d = (rw (same_refl s.name), found_front s l ss ls ss ls d.0 (found-self ss ls d.1))

named-alike : (ss : List StateBit) (ls : List Literal) (S : List StateBit) (L : List Literal) → Found ss ls S L → Alike (named_pairs ss ls S L)
unfolding named_pairs cons_pair
named-alike [] ls S L h = tt
named-alike (s ∷ ss) [] S L h = tt
named-alike (s ∷ ss) (l ∷ ls) S L h = rw h.0 (refl, named-alike ss ls S L h.1)

zip-self : (ls : List Literal) → Alike (zip ls ls)
unfolding zip
zip-self [] = tt
zip-self (l ∷ ls) = (refl, zip-self ls)

zip-alike : (ls ks : List Literal) → ls ≡ ks → Alike (zip ls ks)
zip-alike ls ks e = rw e (zip-self ks)

-- ---- free states

gate-self : (S : List StateBit) (L : List Literal) (v : LiteralList) (ss : List StateBit) (ls : List Literal) → length ls ≡ length ss → Found ss ls S L
    → (gate_variables true S L v ss).literals ≡ v.literals ++ ls
unfolding gate_variables matched gate_variable snoc
gate-self S L v [] [] e h = sym (append-nil v.literals)
gate-self S L v [] (l ∷ ls) e h = absurd (omega arith)
gate-self S L v (s ∷ ss) [] e h = absurd (omega arith)
gate-self S L v (s ∷ ss) (l ∷ ls) e h =
    ap (λ (o : Option Literal). (gate_variables true S L (gate_variable v o) ss).literals) h.0
    ∙ gate-self S L (record { aig = v.aig; literals = v.literals ++ (l ∷ []) }) ss ls (omega arith) h.1
    ∙ append_assoc v.literals (l ∷ []) ls

-- a query of depth 1 that learned nothing
abbrev idle : ℕ → Asked
idle k = record { depth = 1; query = k; learned = 0 }

-- the queries asked of a system against itself, in the mode of the earliest cycle or without it
abbrev pub asked_of_self : Bool → List Asked
asked_of_self true = idle 0 ∷ idle 1 ∷ idle 2 ∷ idle 3 ∷ []
asked_of_self false = idle 1 ∷ idle 2 ∷ idle 3 ∷ []

-- ---- cycles

module _ (s : TransitionSystem) (bits : List Bool) (d : DistinctNames s.states) where
  -- the system against itself, begun at the same bits
  abbrev self : Problem
  self = record { gold = s; gate = s; gold_start = bits; gate_start = bits }

  frames_self : (g : Aig) (ls : List Literal) → (import_frames self g ls ls).gate ≡ (import_frames self g ls ls).gold
  unfolding import_frames
  frames_self g ls = frame_again s _ _ ls

  state-self : (g : Aig) (ls : List Literal) → compare_named_state self g ls ls ≡ record { aig = g; literal = FALSE }
  unfolding compare_named_state
  state-self g ls = compare_alike g _ (named-alike s.states ls s.states ls (found-self s.states ls d))

  mismatch-self : (g : Aig) (ls : List Literal) → (compared_cycle self g ls ls).comparison.mismatch ≡ FALSE
  unfolding compared_cycle cycle_of compare_outputs
  mismatch-self g ls = ap (λ (m : Built). m.literal) (compare_alike _ _ (zip-alike _ _ (sym (ap (λ (f : Frame). f.outputs) (frames_self g ls)))))

  next-self : (g : Aig) (ls : List Literal) → (compared_cycle self g ls ls).gold_next ≡ (compared_cycle self g ls ls).gate_next
  unfolding compared_cycle cycle_of
  next-self g ls = sym (ap (λ (f : Frame). f.next) (frames_self g ls))

  -- query 1 and 2: both sides have the same states, and no mismatch so far
  record Even (b : Base) : Type 0 where
    pub states : b.gold_state ≡ b.gate_state
    pub mismatch : b.any_mismatch ≡ FALSE

  start-even : Even (base_start self)
  unfolding base_start
  start-even = record { states = refl; mismatch = refl }

  cycle-even : (b : Base) → Even b → Even (counterexample_cycle self b)
  unfolding counterexample_cycle counterexample_compared counterexample_next
  cycle-even b h =
      rw h.states
      (record {
        states = next-self b.aig b.gate_state;
        mismatch = rw (h.mismatch, mismatch-self b.aig b.gate_state) (ap (λ (m : Built). m.literal) (or-false _));
      })

  cycles-even : (n : ℕ) (b : Base) → Even b → Even (counterexample_cycles self n b)
  unfolding counterexample_cycles
  cycles-even zero b h = h
  cycles-even (suc n) b h = cycles-even n (counterexample_cycle self b) (cycle-even b h)

  query_1_self : (limit depth : ℕ) → ask limit (base_counterexample self depth) ≡ no_model 0
  unfolding ask base_counterexample base_query
  query_1_self limit depth = rw (cycles-even (suc depth) (base_start self) start-even).mismatch (solve-false limit _ [] [])

  named-even : (b : Base) → Even b → Even (named_state_cycle self b)
  unfolding named_state_cycle named_state_compared named_state_next or_mismatch
  named-even b h =
      rw (h.states, h.mismatch, state-self b.aig b.gate_state, or-false b.aig)
      (record { states = sym (ap (λ (f : Frame). f.next) (frames_self b.aig b.gate_state)); mismatch = refl })

  named-cycles-even : (n : ℕ) (b : Base) → Even b → Even (named_state_cycles self n b)
  unfolding named_state_cycles
  named-cycles-even zero b h = h
  named-cycles-even (suc n) b h = named-cycles-even n (named_state_cycle self b) (named-even b h)

  query_2_self : (limit depth : ℕ) → ask limit (base_preserves_named_state self depth) ≡ no_model 0
  unfolding ask base_preserves_named_state base_query
  query_2_self limit depth = rw (named-cycles-even (suc depth) (base_start self) start-even).mismatch (solve-false limit _ [] [])

  free-self : (free_product_state self true).gold_state ≡ (free_product_state self true).gate_state
  unfolding free_product_state
  free-self =
      let v : LiteralList = record { aig = new; literals = [] } in
      sym
      (gate-self s.states (new_variables v s.states).literals (record { aig = (new_variables v s.states).aig; literals = [] }) s.states
      (new_variables v s.states).literals
      (omega (arith, literals-length v s.states))
      (found-self s.states (new_variables v s.states).literals d))

  induction_states : (last : Bool) (b : Induction) → b.gold_state ≡ b.gate_state
      → (induction_cycle self true last b).gold_state ≡ (induction_cycle self true last b).gate_state
  unfolding induction_cycle induction_compared induction_next
  induction_states last b e = rw e (next-self b.aig b.gate_state)

  induction_mismatch : (b : Induction) → b.gold_state ≡ b.gate_state
      → (c : Cycle) → c.comparison.mismatch ≡ FALSE → (cycle_mismatch self true b c).literal ≡ FALSE
  unfolding cycle_mismatch or_mismatch
  induction_mismatch b e c h = rw (e, h, state-self c.aig b.gate_state) (ap (λ (m : Built). m.literal) (or-false c.aig))

  last_assumption : (b : Induction) → b.gold_state ≡ b.gate_state → (induction_cycle self true true b).assumptions ≡ b.assumptions ++ (FALSE ∷ [])
  unfolding induction_cycle induction_compared induction_next assumed snoc
  last_assumption b e =
      ap (λ (l : Literal). b.assumptions ++ (l ∷ []))
      (induction_mismatch b e _ (rw e (mismatch-self b.aig b.gate_state)))

  -- the last cycle's assumption is FALSE
  assumptions-self : (n : ℕ) (b : Induction) → b.gold_state ≡ b.gate_state
      → (ls : List Literal) × ((induction_cycles self true n b).assumptions ≡ ls ++ (FALSE ∷ []))
  unfolding induction_cycles
  assumptions-self zero b e = (b.assumptions, last_assumption b e)
  assumptions-self (suc n) b e = assumptions-self n (induction_cycle self true false b) (induction_states false b e)

  query_3_self : (limit depth : ℕ) → ask limit (induction_closes self true depth) ≡ no_model 0
  unfolding ask induction_closes induction_query
  query_3_self limit depth =
      let h = assumptions-self depth (free_product_state self true) free-self in
      rw h.1 (solve-false limit _ h.0 [])

  -- ---- the verdict

  depth-self : (limit depth : ℕ) (earlier : List Asked) → at_depth limit self depth earlier ≡ decided (Equivalent depth) (asked_too (asked_too (asked_too earlier depth 1 0) depth 2 0) depth 3 0)
  unfolding at_depth query1 after_query1 after_query2 after_query3
  depth-self limit depth earlier = rw (query_1_self limit depth, query_2_self limit depth, query_3_self limit depth)

  stays_decided : (limit n depth : ℕ) (v : Verdict) (earlier : List Asked) → depths limit self n depth (decided v earlier) ≡ record { verdict = v; asked = earlier }
  unfolding depths
  stays_decided limit zero depth v earlier = refl
  stays_decided limit (suc n) depth v earlier = refl

  before_self : (limit n : ℕ) → before_query1 true limit self (suc n) ≡ undecided (idle 0 ∷ [])
  unfolding before_query1 query0 after_query0 asked_too snoc
  before_self limit n = rw (query_1_self limit 0)

  -- under any limit, to any depth but 0, in either mode: Equivalent, depth 1, and no learned literal
  self-equivalent : (earliest : Bool) (limit n : ℕ) → prove_sequential_equivalence earliest limit self (suc n) ≡ record { verdict = Equivalent 1; asked = asked_of_self earliest }
  unfolding prove_sequential_equivalence depths before_query1 asked_too snoc
  self-equivalent true limit n =
      ap (depths limit self (suc n) 0) (unfold before_query1 asked_too snoc in before_self limit n)
      ∙ ap (depths limit self n 1) (depth-self limit 1 (idle 0 ∷ [])) ∙ stays_decided limit n 1 (Equivalent 1) (asked_of_self true)
  self-equivalent false limit n = ap (depths limit self n 1) (depth-self limit 1 []) ∙ stays_decided limit n 1 (Equivalent 1) (asked_of_self false)

-- ---- a design against itself

-- the name of a register
abbrev pub register_name : Register → Name
register_name r = r.name

names-snoc : (ss : List StateBit) (s : StateBit) → names_by state_name (snoc ss s) ≡ snoc (names_by state_name ss) s.name
unfolding snoc
names-snoc [] s = refl
names-snoc (t ∷ ss) s = ap (λ (ns : List Name). t.name ∷ ns) (names-snoc ss s)

-- the states have the registers' names, in record order
names-lowered : (w : Lowering) (g : Registers) (rs : List Register)
    → names_by state_name (lower_registers w g rs).states ≡ names_by state_name g.states ++ names_by register_name rs
unfolding lower_registers lower_register with_state snoc
names-lowered w g [] = sym (append-nil _)
names-lowered w g (r ∷ rs) =
    names-lowered w (lower_register w.nets g r _) rs
    ∙ ap (λ (ns : List Name). ns ++ names_by register_name rs) (names-snoc g.states _)
    ∙ append_assoc (names_by state_name g.states) (r.name ∷ []) (names_by register_name rs)

distinct-states : (d : Design) → Distinct (names_by register_name d.registers) → DistinctNames (from_netlist d).states
unfolding from_netlist with_registers system_of
distinct-states d h = distinct-sort state_name _ (rw (names-lowered _ (record { aig = _; states = [] }) d.registers) h)

-- a design whose registers have distinct names, against itself from the same start bits, in either mode: Equivalent, depth 1, and no learned literal
pub design-self : (o : Options) (d : Design) (s : StoredBits) → 1 ≤ o.depth → Distinct (names_by register_name d.registers)
    → check_designs o d d s s ≡ record { verdict = Equivalent 1; asked = asked_of_self o.earliest }
unfolding check_designs problem_of
design-self o d s l h = to_depth_lem o.depth l
  where
    to_depth_lem : (D : ℕ) → 1 ≤ D → prove_sequential_equivalence o.earliest o.limit (self (from_netlist d) (by_name d s) (distinct-states d h)) D ≡ record { verdict = Equivalent 1; asked = asked_of_self o.earliest }
    to_depth_lem zero z = absurd (omega arith)
    to_depth_lem (suc n) z = self-equivalent (from_netlist d) (by_name d s) (distinct-states d h) o.earliest o.limit n
