-- The refusals as they are tested are the specification's, and what follows where none applies. Assumes nothing.
use Rattle.std.specs.Prelude.{ℕ, ◌+◌, ◌*◌, ◌≤◌, ◌≡◌, ◌||◌, List, eqb, ltb}
use Rattle.std.proofs.Common.{ap, ◌∙◌, mul-le-mul, add-one, ltb-false}
use Rattle.std.proofs.Math.Option.{Option, none}
use Rattle.words.specs.Layout.{LENT, MOST-NODES, MOST-LEARNED}
use Rattle.model.specs.Answers.{Refusal}
use Rattle.model.specs.Options.{Options, learned_limit}
use Rattle.model.specs.Netlist.{Design, inputs, outputs, input_count, output_count, node_count, register_count}
use Rattle.model.specs.Validate.{◌otherwise◌, refuse_if}
use Rattle.model.specs.Pair as Pair
use Rattle.model.specs.Pair.{inputs_differ, outputs_differ, interface_fault, initial_fault, nodes_per_cycle, proof_nodes, trace_length, too_short, check_fault}
use Rattle.facts.specs.Bools.{or_left, or_right}
use Rattle.laws.specs.Record.Accepted.{otherwise_none, refuse_if-none}
use Rattle.calls.specs.Faults.{otherwise_assoc}
use Rattle.struo_ir.specs.Decoded.{decoded}
use Rattle.struo_ir.specs.Designs.{Sided}
use Rattle.struo_ir.specs.declared.design.Design as Travelling
use Rattle.pair.specs.CountLaws.{count-nodes, count-registers, count-inputs, count-outputs}
use Rattle.laws.specs.Induction.Pairs.{names-length, depth-positive, limit_small}
use Rattle.refusals.specs.Refusals.{frames_by, nodes_by, short_by, options_fault, size_fault, initial_and_size_fault, pair_fault}

-- ---- the checks in turn

-- 23 and 24 by any names of the counts
sizes_by : (gold gate : Design) (inputs outputs m n j k depth : ℕ) (lent : Pair.Lent) → inputs ≡ input_count gold → outputs ≡ output_count gold → node_count gold ≡ m → node_count gate ≡ n
    → register_count gold ≡ j → register_count gate ≡ k
    → size_fault inputs outputs (m + n) (j + k) depth lent ≡ (refuse_if 23 0 0 (ltb 65535 (proof_nodes gold gate depth)) otherwise refuse_if 24 0 0 (too_short gold depth lent))
unfolding size_fault nodes_by frames_by short_by proof_nodes nodes_per_cycle too_short trace_length
sizes_by gold gate inputs outputs m n j k depth lent i o p q r s = rw (i, o, p, q, r, s)

-- 23 and 24 from the counts are those of the designs
pub sizes_of : (s t : List ℕ) (gold gate : Travelling.Design) (depth : ℕ) (lent : Pair.Lent) → Sided s gold → Sided t gate
    → size_fault gold.inputs.count gold.outputs.count (gold.netlist.node_count + gate.netlist.node_count) (gold.netlist.register_count + gate.netlist.register_count) depth lent
    ≡ (refuse_if 23 0 0 (ltb 65535 (proof_nodes (decoded s gold.netlist) (decoded t gate.netlist) depth)) otherwise refuse_if 24 0 0 (too_short (decoded s gold.netlist) depth lent))
sizes_of s t gold gate depth lent v u =
    sizes_by (decoded s gold.netlist) (decoded t gate.netlist) gold.inputs.count gold.outputs.count _ _ _ _ depth lent (count-inputs s gold v.ordered) (count-outputs s gold v.ordered)
    (count-nodes s gold.netlist v.valid.padded) (count-nodes t gate.netlist u.valid.padded)
    (count-registers s gold.netlist v.valid.padded) (count-registers t gate.netlist u.valid.padded)

-- the checks of the options, then the pair's, are all of them
pub check_of_lem : (gold gate : Design) (options : Options) (lent : Pair.Lent) → (options_fault options otherwise pair_fault gold gate options.depth lent) ≡ check_fault gold gate options lent
unfolding options_fault pair_fault initial_and_size_fault check_fault
check_of_lem gold gate options lent =
    let none_asked = refuse_if 16 0 0 (eqb options.depth 0) in
    let deep = refuse_if 17 0 0 (ltb 64 options.depth) in
    otherwise_assoc none_asked (deep otherwise refuse_if 36 0 0 (ltb learned_limit options.limit)) _
    ∙ ap (λ (rest : Option Refusal). none_asked otherwise rest) (otherwise_assoc deep (refuse_if 36 0 0 (ltb learned_limit options.limit)) _)

-- a depth that is not refused is within 64
pub depth_small : (o : Options) → options_fault o ≡ none → o.depth ≤ 64
unfolding options_fault
depth_small o e = ltb-false 64 o.depth (refuse_if-none 17 0 0 _ (otherwise_none (refuse_if 17 0 0 (ltb 64 o.depth)) _ (otherwise_none (refuse_if 16 0 0 (eqb o.depth 0)) _ e).1).0)

-- a product of small numbers is small
pub product_small : (m n k l : ℕ) → m ≤ k → n ≤ l → m * n ≤ k * l
product_small m n k l h j = mul-le-mul h j

-- 24 with the number of rows as it is computed
pub short_within : (inputs outputs depth : ℕ) (lent : Pair.Lent)
    → short_by inputs outputs depth lent ≡ (ltb lent.trace ((depth + 1) * inputs + outputs) || ltb lent.words LENT || ltb lent.scores MOST-NODES)
unfolding short_by
short_within inputs outputs depth lent = rw add-one

-- ---- where none refuses

-- What holds of an accepted pair, the options asked and the buffers lent.
pub record Accepted (gold gate : Design) (options : Options) (lent : Pair.Lent) : Type 0 where
  pub depth_some : 1 ≤ options.depth
  pub depth_small : options.depth ≤ 64
  pub limit_small : options.limit ≤ MOST-LEARNED
  pub inputs_alike : input_count gold ≡ input_count gate
  pub outputs_alike : output_count gold ≡ output_count gate
  pub fits : proof_nodes gold gate options.depth ≤ 65535
  pub trace_long : trace_length gold options.depth ≤ lent.trace
  pub words_long : LENT ≤ lent.words
  pub scores_long : MOST-NODES ≤ lent.scores

-- no check refuses
pub accepted : (gold gate : Design) (options : Options) (lent : Pair.Lent) → check_fault gold gate options lent ≡ none → Accepted gold gate options lent
unfolding check_fault interface_fault inputs_differ outputs_differ too_short input_count output_count
accepted gold gate options lent e =
    let depth = options.depth in
    let zero-depth = otherwise_none (refuse_if 16 0 0 (eqb depth 0)) _ e in
    let deep = otherwise_none (refuse_if 17 0 0 (ltb 64 depth)) _ zero-depth.1 in
    let limit = otherwise_none (refuse_if 36 0 0 (ltb learned_limit options.limit)) _ deep.1 in
    let interface = otherwise_none (interface_fault gold gate) _ limit.1 in
    let ins = otherwise_none (refuse_if 18 0 0 (inputs_differ gold gate)) _ interface.0 in
    let outs = otherwise_none (refuse_if 19 0 0 (outputs_differ gold gate)) _ ins.1 in
    let initial = otherwise_none (initial_fault gold gate) _ interface.1 in
    let large = otherwise_none (refuse_if 23 0 0 (ltb 65535 (proof_nodes gold gate depth))) _ initial.1 in
    let short = refuse_if-none 24 0 0 (too_short gold depth lent) large.1 in
    let shorter = or_left (ltb lent.trace (trace_length gold depth) || ltb lent.words LENT) (ltb lent.scores MOST-NODES) short in
    record {
      depth_some = depth-positive gold gate options lent e;
      depth_small = ltb-false 64 depth (refuse_if-none 17 0 0 _ deep.0);
      limit_small = limit_small gold gate options lent e;
      inputs_alike = names-length (inputs gold) (inputs gate) (refuse_if-none 18 0 0 _ ins.0);
      outputs_alike = names-length (outputs gold) (outputs gate) (refuse_if-none 19 0 0 _ outs.0);
      fits = ltb-false 65535 (proof_nodes gold gate depth) (refuse_if-none 23 0 0 _ large.0);
      trace_long = ltb-false lent.trace (trace_length gold depth) (or_left (ltb lent.trace (trace_length gold depth)) _ shorter);
      words_long = ltb-false lent.words LENT (or_right (ltb lent.trace (trace_length gold depth)) _ shorter);
      scores_long = ltb-false lent.scores MOST-NODES (or_right (ltb lent.trace (trace_length gold depth) || ltb lent.words LENT) _ short);
    }
