-- The lowering is right: a cycle of the transition system is the cycle of the design, for designs that passed validation. Assumes nothing.
use Prim.Native.Nat.{ℕ, suc}
use Rattle.std.proofs.Common.{arith, ◌∙◌, length-append}
use Rattle.std.proofs.Math.Nat.{zero-add}
use Rattle.std.specs.Prelude.{◌≡◌, Bool}
use Rattle.std.proofs.Math.Path.{refl, sym, ap}
use Rattle.std.proofs.Math.Bool.{false}
use mathlib.Core.List.{List, [], ◌∷◌, ◌++◌, map, append_assoc}
use Rattle.std.proofs.Math.Option.{none, some}
use Rattle.std.proofs.Math.ListN.{length}
use Rattle.std.proofs.Math.Seq.{get_or-append_seam}
use Rattle.model.specs.Names.{Place}
use Rattle.model.specs.Netlist.{Register, Design, register_places, ports_from, input_name, output_name, inputs, outputs, registers_by_name}
use Rattle.model.specs.Validate.{driver, validate, nodes_fault, registers_fault, connection_fault}
use Rattle.model.specs.Equivalence.{frame_variables}
use Rattle.model.specs.Run.{InputBits, StoredBits, bit_at, node_values, values_from, next_bit, next_from, next_stored, output_bits, by_name}
use Rattle.model.specs.Literal.{node}
use Rattle.model.specs.Lists.{zip, lookup}
use Rattle.model.specs.Aig.{evaluate, aig_node_values}
use Rattle.model.specs.Transition.{Port, StateBit, Lowering, Registers, net_literal, lower_nodes, no_nodes, lower_registers, system_of, with_registers, from_netlist}
use Rattle.laws.specs.Lowering.SystemRun.{cycle_values, system_outputs, system_next}
use Rattle.facts.specs.Lists.{In, All, all_append}
use Rattle.laws.specs.Pairwise.{Pairwise, pairs_weaken, pairs-map, pairs-all}
use Rattle.laws.specs.Record.Accepted.{otherwise_none}
use Rattle.laws.specs.Queries.Frame.{Grown, grown-refl, has-later}
use Rattle.laws.specs.Lowering.Lists.{sort-pairs, in_map-left, in_map-right, in_sort, Agree, bit-agree, zip-agree, zip_in}
use Rattle.laws.specs.Lowering.Walk.{stored_bit, net_has, Fits, InputHas, WalkMeans, walk_means}
use Rattle.laws.specs.Lowering.Shape.{PortAt, outputs_beside, inputs_beside, register_key}
use Rattle.laws.specs.Lowering.Registers.{StateAt, Known, RegistersMean, registers_mean, lookup-has, OutputsFine, outputs_fine, Drives, drives, states-listed}
use Rattle.laws.specs.Lowering.Fits.{walk_bits, no-nodes_mean, own-fits, same-fits}

-- a design's input bits in byte order of names
unfoldable pub row_of : Design → InputBits → List Bool
row_of d inp = map (λ (p : Place). inp p.name) (inputs d)

module _ (d : Design) (v : validate d ≡ none) where
  -- the walk over all nodes
  abbrev walked : Lowering
  walked = lower_nodes d.registers no_nodes 0 d.nodes

  fine : OutputsFine d.nodes [] d.registers
  unfolding validate
  fine =
      let a = otherwise_none (nodes_fault 0 [] d.nodes) _ v in
      outputs_fine d.nodes 0 [] [] d.registers (otherwise_none (registers_fault d.nodes 0 [] [] d.registers) _ a.1).0

  connected : connection_fault d.registers 0 d.nodes ≡ none
  unfolding validate
  connected =
      let a = otherwise_none (nodes_fault 0 [] d.nodes) _ v in
      let b = otherwise_none (registers_fault d.nodes 0 [] [] d.registers) _ a.1 in
      (otherwise_none (connection_fault d.registers 0 d.nodes) _ b.1).0

  driving : Drives d.registers 0 d.registers
  unfolding driver
  driving = drives d.nodes d.registers 0 [] d.registers fine (λ net _. refl)

  -- the lowered registers
  abbrev lowered : Registers
  lowered = lower_registers walked (record { aig = walked.aig; states = [] }) d.registers

  -- each output of the system stands beside the design's
  pub outputs-at : Pairwise (PortAt d.registers walked.nets) (from_netlist d).outputs (outputs d)
  unfolding from_netlist with_registers system_of outputs no_nodes
  outputs-at =
      sort-pairs (λ (p : Port). p.name) (PortAt d.registers walked.nets) (λ x p r. r.name) walked.outputs (ports_from output_name 0 d.nodes)
      (outputs_beside d.registers walked.nets no_nodes 0 d.nodes [] refl refl tt)

  inputs-at : Pairwise (PortAt d.registers walked.nets) walked.inputs (ports_from input_name 0 d.nodes)
  unfolding no_nodes
  inputs-at = inputs_beside d.registers walked.nets no_nodes 0 d.nodes [] refl refl tt

  -- the system's inputs have the design's names
  pub inputs-named : Pairwise (PortAt d.registers walked.nets) (from_netlist d).inputs (inputs d)
  unfolding from_netlist with_registers system_of inputs
  inputs-named = sort-pairs (λ (p : Port). p.name) (PortAt d.registers walked.nets) (λ x p r. r.name) walked.inputs (ports_from input_name 0 d.nodes) inputs-at

  module _ (inp : InputBits) (stored : StoredBits) where
    -- the plain run's node values in this cycle
    abbrev values : List Bool
    values = values_from d.registers inp stored 0 d.nodes []

    -- the stored bits after it
    abbrev next : List Bool
    next = next_from values stored 0 d.registers

    module _ (e : ℕ → Bool) (fits : Fits e d.registers inp stored no_nodes 0 d.nodes) where
      walk : WalkMeans e d.registers inp stored walked values
      walk = walk_means e d.registers inp stored no_nodes [] 0 d.nodes (no-nodes_mean e d.registers inp stored) fits

      known : (done : List Bool) (k : ℕ) (taken : List ℕ) (rs : List Register) → length done ≡ k → next ≡ done ++ next_from values stored k rs
          → OutputsFine d.nodes taken rs → Drives d.registers k rs
          → Known e stored values next walked k rs
      unfolding next_from
      known done k taken [] a p f g = tt
      known done k taken (r ∷ rs) a p f g =
          let x = next_bit values (bit_at stored k) r in
          let key = rw zero-add at (register_key d.registers no_nodes 0 d.nodes r.output f.0.register) in
          let s = lookup-has e d.registers inp stored walked.aig walked.state_variables r.output walk.states key in
          let t : stored_bit stored (driver d.registers r.output) ≡ bit_at stored k = ap (stored_bit stored) g.0 ∙ bit-known k r in (
            record {
              state = (s.0.0 ∙ t, s.0.1);
              variable = s.1 ∙ t;
              next-is = ap (λ (l : List Bool). bit_at l k) p ∙ seam done x _ k a;
            },
            known (done ++ (x ∷ [])) (suc k) (r.output ∷ taken) rs (longer done x k a) (p ∙ sym (append_assoc done (x ∷ []) _)) f.1 g.1,
          )
        where
          seam : (done : List Bool) (x : Bool) (rest : List Bool) (k : ℕ) → length done ≡ k → bit_at (done ++ (x ∷ rest)) k ≡ x
          seam done x rest k h = unfold bit_at in rw (← h) (get_or-append_seam done x rest false)

          longer : (done : List Bool) (x : Bool) (k : ℕ) → length done ≡ k → length (done ++ (x ∷ [])) ≡ suc k
          longer done x k h = omega (arith, length-append done (x ∷ []))

          bit-known : (k : ℕ) (r : Register) → stored_bit stored (some (record { number = k; register = r })) ≡ bit_at stored k
          bit-known k r = unfold stored_bit in refl

      registers : RegistersMean e stored values next walked.aig lowered (register_places 0 d.registers)
      registers =
          registers_mean e stored values next walked (record { aig = walked.aig; states = [] }) 0 d.registers [] walk.nets
          (known [] 0 [] d.registers refl refl fine driving)
          (record { since = grown-refl e walked.aig walk.formed; states = tt })

      -- the system's states beside the registers by name
      states-at : Pairwise (StateAt e stored values next (from_netlist d).aig) (from_netlist d).states (registers_by_name d)
      unfolding from_netlist with_registers system_of registers_by_name
      states-at =
          sort-pairs (λ (s : StateBit). s.name) (StateAt e stored values next lowered.aig) (λ s p r. r.name) lowered.states (register_places 0 d.registers) registers.states

      -- under an environment that fits, each output's literal has the plain run's output bit
      outputs_mean : map (λ (p : Port). evaluate (aig_node_values e (from_netlist d).aig) p.literal) (from_netlist d).outputs ≡ output_bits d (node_values d inp stored)
      unfolding output_bits node_values
      outputs_mean =
          pairs-map (PortAt d.registers walked.nets) _ _
          (λ p q r. ap (evaluate (aig_node_values e (from_netlist d).aig)) r.literal
          ∙ (has-later e (grown-here) (net_literal walked.nets q.number) _ (net_has e walked.aig walk.formed walked.nets values walk.nets q.number)).0)
          (from_netlist d).outputs (outputs d) outputs-at
        where
          grown-here : Grown e walked.aig (from_netlist d).aig
          grown-here = unfold from_netlist with_registers system_of in registers.since

      -- and each state's next literal the next stored bit
      next_mean : map (λ (s : StateBit). evaluate (aig_node_values e (from_netlist d).aig) s.next) (from_netlist d).states ≡ by_name d (next_stored d (node_values d inp stored) stored)
      unfolding by_name next_stored node_values
      next_mean = pairs-map (StateAt e stored values next (from_netlist d).aig) _ _ (λ s p r. r.next_bit.0) (from_netlist d).states (registers_by_name d) states-at

      names_mean : Pairwise (λ (s : StateBit) (p : Place). s.name ≡ p.name) (from_netlist d).states (registers_by_name d)
      names_mean =
          pairs_weaken (StateAt e stored values next (from_netlist d).aig) (λ (s : StateBit) (p : Place). s.name ≡ p.name) (λ s p r. r.name) (from_netlist d).states (registers_by_name d) states-at

    -- ---- the environment of the walk's own bits

    -- the environment that has the cycle's own bits
    abbrev own_env : ℕ → Bool
    own_env = lookup false (walk_bits d.registers inp stored no_nodes 0 d.nodes)

    own : Fits own_env d.registers inp stored no_nodes 0 d.nodes
    own = own-fits d.registers inp stored (walk_bits d.registers inp stored no_nodes 0 d.nodes) [] no_nodes [] 0 d.nodes refl tt (no-nodes_mean own_env d.registers inp stored)

    -- ---- the environment of a plain cycle

    -- an input's variable has its bit there
    abbrev InputAt : Port → Place → Type 0
    InputAt p q = PortAt d.registers walked.nets p q × InputHas own_env d.registers inp stored p

    input-bits : Pairwise InputAt (from_netlist d).inputs (inputs d)
    unfolding from_netlist with_registers system_of inputs
    input-bits =
        sort-pairs (λ (p : Port). p.name) InputAt (λ x p r. r.0.name) walked.inputs (ports_from input_name 0 d.nodes)
        (pairs-all (PortAt d.registers walked.nets) (InputHas own_env d.registers inp stored) walked.inputs (ports_from input_name 0 d.nodes) inputs-at (walk own_env own).inputs)

    input-right : (p : Port) (q : Place) → InputAt p q → own_env (node p.literal) ≡ inp q.name
    input-right p q r = r.1 ∙ ap inp r.0.name

    state-right : (s : StateBit) (p : Place) → StateAt own_env stored values next (from_netlist d).aig s p → own_env s.variable ≡ bit_at stored p.number
    state-right s p r = r.variable-bit

    -- the bits of a plain cycle
    abbrev cycle_bits : List (ℕ × Bool)
    cycle_bits = frame_variables (from_netlist d) (row_of d inp) (by_name d stored)

    bits-agree : All (Agree own_env) cycle_bits
    unfolding frame_variables row_of by_name
    bits-agree =
        all_append (Agree own_env) (zip (map (λ (p : Port). node p.literal) (from_netlist d).inputs) (map (λ (p : Place). inp p.name) (inputs d))) _
        (zip-agree own_env InputAt _ _ input-right (from_netlist d).inputs (inputs d) input-bits)
        (zip-agree own_env (StateAt own_env stored values next (from_netlist d).aig) _ _ state-right (from_netlist d).states (registers_by_name d) (states-at own_env own))

    input-listed : (k : ℕ) → In k (map (λ (p : Port). node p.literal) walked.inputs) → In k (map (λ (p : ℕ × Bool). p.0) cycle_bits)
    unfolding frame_variables row_of by_name from_netlist with_registers system_of
    input-listed k i =
        in_map-left (λ (p : ℕ × Bool). p.0) k (zip (map (λ (p : Port). node p.literal) (from_netlist d).inputs) (map (λ (p : Place). inp p.name) (inputs d))) _
        (zip_in own_env InputAt (λ (p : Port). node p.literal) (λ (p : Place). inp p.name) input-right k (from_netlist d).inputs (inputs d) input-bits
        (in_sort (λ (p : Port). p.name) (λ (p : Port). node p.literal) k walked.inputs i))

    state-listed : (k : ℕ) → In k (map (λ (s : StateBit). s.variable) lowered.states) → In k (map (λ (p : ℕ × Bool). p.0) cycle_bits)
    unfolding frame_variables row_of by_name from_netlist with_registers system_of
    state-listed k i =
        in_map-right (λ (p : ℕ × Bool). p.0) k (zip (map (λ (p : Port). node p.literal) (from_netlist d).inputs) (map (λ (p : Place). inp p.name) (inputs d)))
        (zip (map (λ (s : StateBit). s.variable) (from_netlist d).states) (map (λ (p : Place). bit_at stored p.number) (registers_by_name d)))
        (zip_in own_env (StateAt own_env stored values next (from_netlist d).aig) (λ (s : StateBit). s.variable) (λ (p : Place). bit_at stored p.number) state-right k
        (from_netlist d).states (registers_by_name d) (states-at own_env own)
        (in_sort (λ (s : StateBit). s.name) (λ (s : StateBit). s.variable) k lowered.states i))

    -- a plain cycle's environment fits: inputs by name, stored bits by register
    cycle-fits : Fits (lookup false cycle_bits) d.registers inp stored no_nodes 0 d.nodes
    unfolding no_nodes
    cycle-fits =
        same-fits d.registers inp stored own_env (lookup false cycle_bits) walked
        (λ k i. bit-agree own_env cycle_bits k bits-agree (input-listed k i))
        (λ net i. bit-agree own_env cycle_bits _ bits-agree (state-listed _ (states-listed walked (record { aig = walked.aig; states = [] }) d.registers net i)))
        no_nodes 0 d.nodes refl tt connected own

    -- a plain cycle of the system has the outputs of the design
    pub outputs-right : system_outputs (from_netlist d) (row_of d inp) (by_name d stored) ≡ output_bits d (node_values d inp stored)
    unfolding system_outputs cycle_values
    outputs-right = outputs_mean (lookup false cycle_bits) cycle-fits

    -- and its next states are the design's next stored bits
    pub next-right : system_next (from_netlist d) (row_of d inp) (by_name d stored) ≡ by_name d (next_stored d (node_values d inp stored) stored)
    unfolding system_next cycle_values
    next-right = next_mean (lookup false cycle_bits) cycle-fits

  -- the system's states have the registers' names
  pub states-named : Pairwise (λ (s : StateBit) (p : Place). s.name ≡ p.name) (from_netlist d).states (registers_by_name d)
  states-named = names_mean (λ n. false) [] (own_env (λ n. false) []) (own (λ n. false) [])
