-- The cycles of a query: after each, the literals of its states and of its mismatch have the values of the plain runs. Assumes nothing.
use Prim.Native.Nat.{ℕ, zero, suc, ◌+◌}
use Rattle.std.specs.Prelude.{◌≡◌, Bool, not}
use Rattle.std.proofs.Math.Path.{refl, sym, ap, ap₂}
use Rattle.std.proofs.Common.{◌∙◌}
use Rattle.std.proofs.Math.Bool.{true, false, ◌||◌, or_assoc, or-false}
use mathlib.Core.List.{List, [], ◌∷◌, ◌++◌, map, append_assoc, append-nil}
use Rattle.std.proofs.Math.Option.{Option, none, some}
use Rattle.std.proofs.Math.ListN.{length}
use Rattle.model.specs.Literal.{Literal, node, constant_literal}
use Rattle.model.specs.Lists.{snoc, zip}
use Rattle.model.specs.Aig.{Aig, Variable, new, variable, aig_node_values}
use Rattle.model.specs.Names.{Name}
use Rattle.model.specs.Transition.{StateBit}
use Rattle.model.specs.Equivalence.{Problem, compare_named_state, import_frame, LiteralList, with_built, new_variables, proof_inputs, or_mismatch, compare_outputs, Cycle, Frames, import_frames, cycle_of, compared_cycle, Base, base_start, counterexample_next, counterexample_compared, counterexample_cycle, counterexample_cycles, named_state_next, named_state_compared, named_state_cycle, named_state_cycles, Induction, gate_variable, matched, gate_variables, free_product_state, cycle_mismatch, assumed, induction_next, induction_compared, induction_cycle, induction_cycles, induction_query, induction_closes}
use Rattle.laws.specs.Lists.{length-snoc}
use Rattle.laws.specs.Queries.Bits.{compare_means, zip_both, Alike, found_alike, named-both, NewBits, variables_mean, inputs_mean, bits_from, variables-length, input_rows, state_rows, induction_rows, induction_last, shared_bit, shared_number, gate_bits}
use Rattle.laws.specs.Graph.Values.{lit_1}
use Rattle.laws.specs.Lowering.SystemRun.{system_outputs, system_next, system_outputs_differ, system_states_differ, outputs_differ_within, states_differ_within, cycle_differs, assumption_bits}
use Rattle.laws.specs.Pairwise.{Pairwise, pairs-snoc}
use Rattle.laws.specs.Graph.Operations.{Formed, Means, variable_means, same_graph, or_means, after, meaning, grounded}
use Rattle.laws.specs.Queries.Frame.{Has, Grown, grown-refl, grown_trans, grown, has, has-later, list_later, has-false, has-negate, frame_means}

module _ (environment : ℕ → Bool) where
  -- ---- cycles

  module _ (p : Problem) where
    -- a compared cycle on a row of inputs, from state bits xs and ys
    pub record CycleMeans (g : Aig) (row xs ys : List Bool) (c : Cycle) : Type 0 where
      pub since : Grown environment g c.aig
      pub gold_next : Pairwise (Has environment c.aig) c.gold_next (system_next p.gold row xs)
      pub gate_next : Pairwise (Has environment c.aig) c.gate_next (system_next p.gate row ys)
      pub mismatch : Has environment c.aig c.comparison.mismatch (system_outputs_differ p.gold p.gate row xs ys)

    -- a compared cycle means the plain cycle of both systems
    pub cycle_means : (g : Aig) → Formed g → (ls : List Literal) (xs : List Bool) (ks : List Literal) (ys : List Bool)
        → Pairwise (Has environment g) ls xs → Pairwise (Has environment g) ks ys
        → CycleMeans g (bits_from environment (length g) (length p.gold.inputs)) xs ys (compared_cycle p g ls ks)
    unfolding compared_cycle cycle_of import_frames compare_outputs system_outputs_differ
    cycle_means g w ls xs ks ys h k =
        let row = bits_from environment (length g) (length p.gold.inputs) in
        let i = proof_inputs g p.gold in
        let n = inputs_mean environment g w p.gold in
        let gold = import_frame p.gold i.aig i.literals ls in
        let a = frame_means environment i.aig n.since.formed p.gold i.literals ls row xs n.literals (list_later environment n.since ls xs h) in
        let gate = import_frame p.gate gold.aig i.literals ks in
        let b = frame_means environment gold.aig a.after.formed p.gate i.literals ks row ys
        (list_later environment a.after i.literals row n.literals)
        (list_later environment (grown_trans environment n.since a.after) ks ys k) in
        let c = compare_means environment gate.aig b.after.formed (zip gold.outputs gate.outputs) (zip (system_outputs p.gold row xs) (system_outputs p.gate row ys))
        (zip_both environment gate.aig gold.outputs _ gate.outputs _ (list_later environment b.after gold.outputs _ a.outputs) b.outputs) in
        record {
          since = grown_trans environment n.since (grown_trans environment a.after (grown_trans environment b.after (grown environment c)));
          gold_next = list_later environment (grown_trans environment b.after (grown environment c)) gold.next _ a.next;
          gate_next = list_later environment (grown environment c) gate.next _ b.next;
          mismatch = has environment c;
        }

    -- query 1 after some cycles: both sides' state bits, and whether outputs differed so far
    pub record BaseMeans (b : Base) (xs ys : List Bool) (m : Bool) : Type 0 where
      pub formed : Formed b.aig
      pub gold : Pairwise (Has environment b.aig) b.gold_state xs
      pub gate : Pairwise (Has environment b.aig) b.gate_state ys
      pub mismatch : Has environment b.aig b.any_mismatch m

    -- one cycle of query 1
    pub base-cycle : (b : Base) (xs ys : List Bool) (m : Bool) → BaseMeans b xs ys m
        → (let row = bits_from environment (length b.aig) (length p.gold.inputs) in
        BaseMeans (counterexample_cycle p b) (system_next p.gold row xs) (system_next p.gate row ys)
        (m || system_outputs_differ p.gold p.gate row xs ys))
    unfolding counterexample_cycle counterexample_compared counterexample_next
    base-cycle b xs ys m h =
        let c = cycle_means b.aig h.formed b.gold_state xs b.gate_state ys h.gold h.gate in
        let d = compared_cycle p b.aig b.gold_state b.gate_state in
        let f = has-later environment c.since b.any_mismatch m h.mismatch in
        let o = or_means environment d.aig c.since.formed b.any_mismatch d.comparison.mismatch f.1 c.mismatch.1 in
        record {
          formed = o.formed;
          gold = list_later environment (grown environment o) d.gold_next _ c.gold_next;
          gate = list_later environment (grown environment o) d.gate_next _ c.gate_next;
          mismatch = (o.value ∙ ap₂ ◌||◌ f.0 c.mismatch.0, o.inside);
        }

    base-cycles : (n : ℕ) (b : Base) (xs ys : List Bool) (m : Bool) → BaseMeans b xs ys m
        → Has environment (counterexample_cycles p n b).aig (counterexample_cycles p n b).any_mismatch
        (m || outputs_differ_within p.gold p.gate xs ys (input_rows environment p n b))
    unfolding counterexample_cycles input_rows outputs_differ_within
    base-cycles zero b xs ys m h = (h.mismatch.0 ∙ sym (or-false m), h.mismatch.1)
    base-cycles (suc n) b xs ys m h =
        let r = base-cycles n (counterexample_cycle p b) _ _ _ (base-cycle b xs ys m h) in
        (r.0 ∙ or_assoc m _ _, r.1)

    constants_mean : (g : Aig) → Formed g → (xs : List Bool) → Pairwise (Has environment g) (map constant_literal xs) xs
    unfolding constant_literal node
    constants_mean g w [] = tt
    constants_mean g w (false ∷ xs) = (has-false environment g w, constants_mean g w xs)
    constants_mean g w (true ∷ xs) =
        ((lit_1 (aig_node_values environment g) (grounded environment g w), (has-false environment g w).1), constants_mean g w xs)

    -- the empty graph is in order
    pub new-formed : Formed new
    unfolding new
    new-formed = record { order = (tt, tt); grounding = refl }

    -- query 1's assumption, under any values of its variables: the outputs differ in a cycle from 0 to depth
    pub query_1_means : (depth : ℕ)
        → Has environment (counterexample_cycles p (suc depth) (base_start p)).aig (counterexample_cycles p (suc depth) (base_start p)).any_mismatch
        (outputs_differ_within p.gold p.gate p.gold_start p.gate_start (input_rows environment p (suc depth) (base_start p)))
    unfolding base_start
    query_1_means depth =
        base-cycles (suc depth) (base_start p) p.gold_start p.gate_start false
        (record {
          formed = new-formed;
          gold = constants_mean new new-formed p.gold_start;
          gate = constants_mean new new-formed p.gate_start;
          mismatch = has-false environment new new-formed;
        })

    -- ---- query 2

    states_mean : (g : Aig) → Formed g → (ls : List Literal) (xs : List Bool) (ks : List Literal) (ys : List Bool)
        → Pairwise (Has environment g) ls xs → Pairwise (Has environment g) ks ys → Means environment g (system_states_differ p.gold p.gate xs ys) (compare_named_state p g ls ks)
    unfolding compare_named_state system_states_differ
    states_mean g w ls xs ks ys h k = compare_means environment g w _ _ (named-both environment g p.gold.states ls xs p.gate.states ks ys h k)

    -- a mismatch so far, or states named alike that differ
    or-states : (g : Aig) → Formed g → (l : Literal) (m : Bool) → Has environment g l m → (ls : List Literal) (xs : List Bool) (ks : List Literal) (ys : List Bool)
        → Pairwise (Has environment g) ls xs → Pairwise (Has environment g) ks ys
        → Means environment g (m || system_states_differ p.gold p.gate xs ys) (or_mismatch l (compare_named_state p g ls ks))
    unfolding or_mismatch
    or-states g w l m q ls xs ks ys h k =
        let e = states_mean g w ls xs ks ys h k in
        let f = has-later environment (grown environment e) l m q in
        let o = or_means environment (compare_named_state p g ls ks).aig e.formed l (compare_named_state p g ls ks).literal f.1 e.inside in
        after environment e (meaning environment (ap₂ ◌||◌ f.0 e.value) o)

    -- both sides' frames on a row of inputs
    record FramesMean (g : Aig) (row xs ys : List Bool) (f : Frames) : Type 0 where
      pub since : Grown environment g f.gate.aig
      pub gold_next : Pairwise (Has environment f.gate.aig) f.gold.next (system_next p.gold row xs)
      pub gate_next : Pairwise (Has environment f.gate.aig) f.gate.next (system_next p.gate row ys)

    frames_mean : (g : Aig) → Formed g → (ls : List Literal) (xs : List Bool) (ks : List Literal) (ys : List Bool)
        → Pairwise (Has environment g) ls xs → Pairwise (Has environment g) ks ys
        → FramesMean g (bits_from environment (length g) (length p.gold.inputs)) xs ys (import_frames p g ls ks)
    unfolding import_frames
    frames_mean g w ls xs ks ys h k =
        let row = bits_from environment (length g) (length p.gold.inputs) in
        let i = proof_inputs g p.gold in
        let n = inputs_mean environment g w p.gold in
        let gold = import_frame p.gold i.aig i.literals ls in
        let a = frame_means environment i.aig n.since.formed p.gold i.literals ls row xs n.literals (list_later environment n.since ls xs h) in
        let b = frame_means environment gold.aig a.after.formed p.gate i.literals ks row ys
        (list_later environment a.after i.literals row n.literals)
        (list_later environment (grown_trans environment n.since a.after) ks ys k) in
        record {
          since = grown_trans environment n.since (grown_trans environment a.after b.after);
          gold_next = list_later environment b.after gold.next _ a.next;
          gate_next = b.next;
        }

    -- one cycle of query 2
    pub named-cycle : (b : Base) (xs ys : List Bool) (m : Bool) → BaseMeans b xs ys m
        → (let row = bits_from environment (length (or_mismatch b.any_mismatch (compare_named_state p b.aig b.gold_state b.gate_state)).aig) (length p.gold.inputs) in
        BaseMeans (named_state_cycle p b) (system_next p.gold row xs) (system_next p.gate row ys) (m || system_states_differ p.gold p.gate xs ys))
    unfolding named_state_cycle named_state_compared named_state_next
    named-cycle b xs ys m h =
        let o = or-states b.aig h.formed b.any_mismatch m h.mismatch b.gold_state xs b.gate_state ys h.gold h.gate in
        let n = or_mismatch b.any_mismatch (compare_named_state p b.aig b.gold_state b.gate_state) in
        let f = frames_mean n.aig o.formed b.gold_state xs b.gate_state ys
        (list_later environment (grown environment o) b.gold_state xs h.gold) (list_later environment (grown environment o) b.gate_state ys h.gate) in
        record { formed = f.since.formed; gold = f.gold_next; gate = f.gate_next; mismatch = has-later environment f.since n.literal _ (has environment o) }

    named-cycles : (n : ℕ) (b : Base) (xs ys : List Bool) (m : Bool) → BaseMeans b xs ys m
        → Has environment (named_state_cycles p n b).aig (named_state_cycles p n b).any_mismatch
        (m || states_differ_within p.gold p.gate xs ys (state_rows environment p n b))
    unfolding named_state_cycles state_rows states_differ_within
    named-cycles zero b xs ys m h = (h.mismatch.0 ∙ sym (or-false m), h.mismatch.1)
    named-cycles (suc n) b xs ys m h =
        let r = named-cycles n (named_state_cycle p b) _ _ _ (named-cycle b xs ys m h) in
        (r.0 ∙ or_assoc m _ _, r.1)

    -- queries 1 and 2 begin at the start bits
    pub start_means : BaseMeans (base_start p) p.gold_start p.gate_start false
    unfolding base_start
    start_means =
        record {
          formed = new-formed;
          gold = constants_mean new new-formed p.gold_start;
          gate = constants_mean new new-formed p.gate_start;
          mismatch = has-false environment new new-formed;
        }

    -- query 2's assumption: states named alike differ at the start of a cycle from 0 to depth
    pub query_2_means : (depth : ℕ)
        → Has environment (named_state_cycles p (suc depth) (base_start p)).aig (named_state_cycles p (suc depth) (base_start p)).any_mismatch
        (states_differ_within p.gold p.gate p.gold_start p.gate_start (state_rows environment p (suc depth) (base_start p)))
    query_2_means depth = named-cycles (suc depth) (base_start p) p.gold_start p.gate_start false start_means

    -- ---- query 3 and 4

    -- both sides' state bits, and the values of the assumptions so far
    pub record InductionMeans (b : Induction) (xs ys as_bits : List Bool) : Type 0 where
      pub formed : Formed b.aig
      pub gold : Pairwise (Has environment b.aig) b.gold_state xs
      pub gate : Pairwise (Has environment b.aig) b.gate_state ys
      pub assumptions : Pairwise (Has environment b.aig) b.assumptions as_bits

    mismatch_means : (include : Bool) (b : Induction) (c : Cycle) (row xs ys : List Bool) → CycleMeans b.aig row xs ys c
        → Pairwise (Has environment c.aig) b.gold_state xs → Pairwise (Has environment c.aig) b.gate_state ys
        → Means environment c.aig (cycle_differs include p.gold p.gate row xs ys) (cycle_mismatch p include b c)
    unfolding cycle_mismatch cycle_differs
    mismatch_means true b c row xs ys h q r =
        or-states c.aig h.since.formed c.comparison.mismatch _ h.mismatch b.gold_state xs b.gate_state ys q r
    mismatch_means false b c row xs ys h q r = same_graph environment c.aig _ c.comparison.mismatch h.since.formed h.mismatch.1 h.mismatch.0

    -- the value of an assumption: of the last cycle that it differs, of another that it does not
    unfoldable pub assumed_bit : Bool → Bool → Bool
    assumed_bit true x = x
    assumed_bit false x = not x

    assumed-has : (g : Aig) (last : Bool) (l : Literal) (x : Bool) → Has environment g l x → Has environment g (assumed last l) (assumed_bit last x)
    unfolding assumed assumed_bit
    assumed-has g true l x h = h
    assumed-has g false l x h = has-negate environment g l x h

    -- one cycle of queries 3 and 4
    pub induction_step : (include last : Bool) (b : Induction) (xs ys as_bits : List Bool) → InductionMeans b xs ys as_bits
        → (let row = bits_from environment (length b.aig) (length p.gold.inputs) in
        InductionMeans (induction_cycle p include last b) (system_next p.gold row xs) (system_next p.gate row ys)
        (snoc as_bits (assumed_bit last (cycle_differs include p.gold p.gate row xs ys))))
    unfolding induction_cycle induction_compared induction_next
    induction_step include last b xs ys as_bits h =
        let row = bits_from environment (length b.aig) (length p.gold.inputs) in
        let c = cycle_means b.aig h.formed b.gold_state xs b.gate_state ys h.gold h.gate in
        let d = compared_cycle p b.aig b.gold_state b.gate_state in
        let m = mismatch_means include b d row xs ys c (list_later environment c.since b.gold_state xs h.gold) (list_later environment c.since b.gate_state ys h.gate) in
        let n = cycle_mismatch p include b d in
        record {
          formed = m.formed;
          gold = list_later environment (grown environment m) d.gold_next _ c.gold_next;
          gate = list_later environment (grown environment m) d.gate_next _ c.gate_next;
          assumptions =
              pairs-snoc (Has environment n.aig) b.assumptions as_bits (assumed last n.literal) _
              (list_later environment (grown_trans environment c.since (grown environment m)) b.assumptions as_bits h.assumptions)
              (assumed-has n.aig last n.literal _ (has environment m));
        }

    induction_mean : (include : Bool) (n : ℕ) (b : Induction) (xs ys as_bits : List Bool) → InductionMeans b xs ys as_bits
        → Pairwise (Has environment (induction_cycles p include n b).aig) (induction_cycles p include n b).assumptions
        (as_bits ++ assumption_bits include p.gold p.gate xs ys (induction_rows environment p include n b) (induction_last environment p include n b))
    unfolding induction_cycles assumption_bits induction_rows induction_last assumed_bit snoc
    induction_mean include zero b xs ys as_bits h = (induction_step include true b xs ys as_bits h).assumptions
    induction_mean include (suc n) b xs ys as_bits h =
        let r = induction_mean include n (induction_cycle p include false b) _ _ _ (induction_step include false b xs ys as_bits h) in
        rw append_assoc at r

    -- ---- free states

    -- gate's free states have these bits, and gold's keep theirs
    pub record Shared (g : Aig) (L : List Literal) (X : List Bool) (v : LiteralList) (ys : List Bool) : Type 0 where
      pub bits : NewBits environment g v ys
      pub gold : Pairwise (Has environment v.aig) L X

    share_one : (g : Aig) (L : List Literal) (X : List Bool) (v : LiteralList) (ys : List Bool) (o : Option Literal) (u : Option Bool)
        → Shared g L X v ys → Alike environment v.aig o u
        → Shared g L X (gate_variable v o) (snoc ys (shared_bit u (environment (length v.aig))))
        × (length (gate_variable v o).aig ≡ shared_number u (length v.aig))
    unfolding gate_variable shared_bit shared_number with_built variable
    share_one g L X v ys none none h k =
        let m = variable_means environment v.aig h.bits.since.formed in
        let r = grown environment m in (
          record {
            bits =
                record {
                  since = grown_trans environment h.bits.since r;
                  literals =
                      pairs-snoc (Has environment (variable v.aig).aig) v.literals ys _ _ (list_later environment r v.literals ys h.bits.literals) (has environment m);
                };
            gold = list_later environment r L X h.gold;
          },
          length-snoc v.aig (Variable (length v.aig)),
        )
    share_one g L X v ys none (some x) h k = absurd k
    share_one g L X v ys (some l) none h k = absurd k
    share_one g L X v ys (some l) (some x) h k = (
      record {
        bits = record { since = h.bits.since; literals = pairs-snoc (Has environment v.aig) v.literals ys l x h.bits.literals k };
        gold = h.gold;
      },
      refl,
    )

    matched-alike : (g : Aig) (share : Bool) (n : Name) (S : List StateBit) (L : List Literal) (X : List Bool) → Pairwise (Has environment g) L X
        → Alike environment g (matched share n S L) (matched share n S X)
    unfolding matched
    matched-alike g true n S L X h = found_alike environment g n S L X h
    matched-alike g false n S L X h = tt

    -- gate's free states have the bits of gate_bits
    pub gate_mean : (share : Bool) (g : Aig) (S : List StateBit) (L : List Literal) (X : List Bool) (v : LiteralList) (ys : List Bool) (n : ℕ) (ss : List StateBit)
        → length v.aig ≡ n → Shared g L X v ys → Shared g L X (gate_variables share S L v ss) (ys ++ gate_bits environment share S X n ss)
    unfolding gate_variables gate_bits snoc
    gate_mean share g S L X v ys n [] e h = rw append-nil h
    gate_mean share g S L X v ys n (s ∷ ss) e h =
        let o = matched share s.name S L in
        let u = matched share s.name S X in
        let r = share_one g L X v ys o u h (matched-alike v.aig share s.name S L X h.gold) in
        let q = gate_mean share g S L X (gate_variable v o) _ (shared_number u n) ss (r.1 ∙ ap (shared_number u) e) r.0 in
        rw (append_assoc, e) at q

    -- query 3 (include) and 4: the assumptions' values say that no cycle before the last differs and that the last one does, from free states
    pub query_3_4_mean : (include : Bool) (depth : ℕ)
        → (let xs = bits_from environment 1 (length p.gold.states) in
        let ys = gate_bits environment include p.gold.states xs (1 + length p.gold.states) p.gate.states in
        let b = free_product_state p include in
        Pairwise (Has environment (induction_closes p include depth).aig) (induction_closes p include depth).assumptions
        (assumption_bits include p.gold p.gate xs ys (induction_rows environment p include depth b) (induction_last environment p include depth b)))
    unfolding induction_closes induction_query free_product_state new
    query_3_4_mean include depth =
        let v : LiteralList = record { aig = new; literals = [] } in
        let gold = new_variables v p.gold.states in
        let xs = bits_from environment 1 (length p.gold.states) in
        let a = variables_mean environment new v [] p.gold.states (record { since = grown-refl environment new new-formed; literals = tt }) in
        let n = variables-length v p.gold.states in
        let u : LiteralList = record { aig = gold.aig; literals = [] } in
        let s = gate_mean include new p.gold.states gold.literals xs u [] (1 + length p.gold.states) p.gate.states n
        (record { bits = record { since = a.since; literals = tt }; gold = a.literals }) in
        induction_mean include depth (free_product_state p include) xs _ []
        (record { formed = s.bits.since.formed; gold = s.gold; gate = s.bits.literals; assumptions = tt })
