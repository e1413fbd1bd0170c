-- Laws of the checks of a pair on decoded netlists and their orders. Assumes nothing.
use Rattle.std.specs.Prelude.{ℕ, zero, suc, ◌+◌, ◌<◌, ◌≤◌, ◌≡◌, refl, Bool, true, false, cond, not, List, [], map, eqb, take, drop, get_or}
use Rattle.std.proofs.Common.{zero-le, sym, ◌∙◌, inl, eq-or-lt_of_le, add-one, length-take}
use Rattle.std.proofs.Math.Path.{ap}
use Rattle.std.proofs.Math.Logic.{⊎_elim}
use Rattle.std.proofs.Math.Option.{Option, none, some}
use native.Mathlib.Omega.{arith}
use borrow.Author.Tests.{lt-ltb, le-ltb, eq-eqb, ne_eqb}
use Rattle.std.proofs.Math.ListN.{length, get_elem?, drop_of_length-le}
use Rattle.std.proofs.lemmas.List.{length-map}
use Rattle.facts.specs.Numbers.{by_lt}
use Rattle.model.specs.Kinds.{input_kind, constant_kind}
use Rattle.model.specs.Names.{Place, same_name, same_names, names_of}
use Rattle.model.specs.Netlist as Model
use Rattle.model.specs.Netlist.{Rising, Falling, Register, Design, input_name}
use Rattle.model.specs.Record.{edge_of}
use Rattle.model.specs.Validate.{◌otherwise◌, refuse_if}
use Rattle.model.specs.Pair as Pair
use Rattle.model.specs.Pair.{Domain, name_or, domain_of, same_edge, same_domain, all_in, many_domains, domain, domains_differ, no_reset, no_reset_at, resets_fault, initial_fault}
use Rattle.calls.specs.Faults.{refusal}
use Rattle.struo_ir.specs.Decoded.{name_at, decoded_node, decoded_reset, decoded_register, decoded}
use Rattle.struo_ir.specs.Designs.{Sided}
use Rattle.struo_ir.specs.Orders.{no_entry, place_of, places, Formed}
use Rattle.struo_ir.specs.Nodes.{no_node}
use Rattle.struo_ir.specs.Registers.{no_register}
use Rattle.name_order.specs.Places.{port_name}
use Rattle.name_order.specs.PortLaws.{count-places, port_name_lem}
use Rattle.struo_ir.specs.declared.netlist.Node.{Node}
use Rattle.struo_ir.specs.declared.netlist.RegisterCell.{RegisterCell}
use Rattle.struo_ir.specs.declared.netlist.Netlist.{Netlist}
use Rattle.struo_ir.specs.declared.design.Order.{Order}
use Rattle.struo_ir.specs.declared.design.Design as Travelling
use Rattle.struo_ir.specs.ListLaws.{element, no_element}
use Rattle.pair.specs.ElementLaws.{decoded-register, place_at}
use Rattle.pair.specs.PairChecks.{domain_by, lacks_reset, domains_fault}

-- ---- names of two orders

module _ (s t : List ℕ) (gold gate : Order) (k : ℕ) (f : Formed gold) (g : Formed gate) where
  -- the second order has ended
  pub names_longer : k < gold.count → gate.count ≤ k → same_names (names_of (drop k (places s gold))) (names_of (drop k (places t gate))) ≡ false
  unfolding same_names names_of
  names_longer h l =
      let m : length (places t gate) ≤ k = omega (arith, count-places t gate g) in
      rw (place_at s gold k h f, drop_of_length-le (places t gate))

  -- two names differ
  pub names_apart : k < gold.count → k < gate.count → same_name (name_at s (get_or gold.entries k no_entry).name) (name_at t (get_or gate.entries k no_entry).name) ≡ false
      → same_names (names_of (drop k (places s gold))) (names_of (drop k (places t gate))) ≡ false
  unfolding same_names names_of place_of
  names_apart h l e = rw (place_at s gold k h f, place_at t gate k l g, e)

  -- two names are alike
  pub names_more : k < gold.count → k < gate.count → same_name (name_at s (get_or gold.entries k no_entry).name) (name_at t (get_or gate.entries k no_entry).name) ≡ true
      → same_names (names_of (drop k (places s gold))) (names_of (drop k (places t gate))) ≡ same_names (names_of (drop (k + 1) (places s gold))) (names_of (drop (k + 1) (places t gate)))
  unfolding same_names names_of place_of
  names_more h l e = rw (add-one, place_at s gold k h f, place_at t gate k l g, e)

  -- the first order has ended: they are the same where the second has
  pub names-end : gold.count ≤ k → k ≤ gate.count → same_names (names_of (drop k (places s gold))) (names_of (drop k (places t gate))) ≡ eqb k gate.count
  unfolding same_names names_of
  names-end h l =
      let m : length (places s gold) ≤ k = omega (arith, count-places s gold f) in
      ⊎_elim
      (λ (e : k ≡ gate.count). let w : length (places t gate) ≤ k = omega (arith, count-places t gate g) in rw (drop_of_length-le (places s gold), drop_of_length-le (places t gate), eq-eqb k gate.count e))
      (λ (w : k < gate.count). let n : k ≡ gate.count → ⊥ = λ e. omega arith in rw (drop_of_length-le (places s gold), place_at t gate k w g, ne_eqb k gate.count n))
      (eq-or-lt_of_le l)

-- ---- clock domains

-- the Input name of a decoded node
pub input-name_of : (s : List ℕ) (n : Node) → name_or (input_name (decoded_node s n)) ≡ cond (eqb n.kind input_kind) (name_at s n.detail) []
unfolding name_or port_name
input-name_of s n = ap name_or (port_name_lem s input_kind n (inl refl)) ∙ go (eqb n.kind input_kind)
  where
    go : (b : Bool) → name_or (cond b (some (name_at s n.detail)) none) ≡ cond b (name_at s n.detail) []
    go true = refl
    go false = refl

-- the clock's node
pub clock_in : (s : List ℕ) (n : Netlist) (k : ℕ) → k < n.node_count → n.node_count ≤ length n.nodes
    → name_or (input_name (decoded_node s (get_or n.nodes k no_node))) ≡ Pair.name_at (get_elem? (decoded s n).nodes k)
unfolding Pair.name_at decoded
clock_in s n k h l = rw (element (decoded_node s) n.nodes n.node_count k no_node h l)

-- no clock's node
pub clock_out : (s : List ℕ) (n : Netlist) (k : ℕ) (m : Node) → m.kind ≡ constant_kind → n.node_count ≤ k → name_or (input_name (decoded_node s m)) ≡ Pair.name_at (get_elem? (decoded s n).nodes k)
unfolding Pair.name_at decoded
clock_out s n k m e h = input-name_of s m ∙ rw (e, no_element (decoded_node s) n.nodes n.node_count k h)

-- the domain of a register by its clock's node
pub domain_by_lem : (s : List ℕ) (n : Netlist) (r : RegisterCell) (m : Node) (w : ℕ) → w ≡ r.clock → ((s : List ℕ) → name_or (input_name (decoded_node s m)) ≡ Pair.name_at (get_elem? (decoded s n).nodes w))
    → domain_by s m r.edge ≡ domain_of (decoded s n).nodes (decoded_register s r)
unfolding domain_by domain_of decoded_register
domain_by_lem s n r m w q e = rw (e s, q)

-- equal edges by their codes
pub edges : (e f : ℕ) → same_edge (edge_of e) (edge_of f) ≡ cond (eqb e 0) (eqb f 0) (not (eqb f 0))
unfolding edge_of same_edge
edges e f = go (eqb e 0) (eqb f 0)
  where
    go : (x y : Bool) → same_edge (cond x Rising Falling) (cond y Rising Falling) ≡ cond x y (not y)
    go true true = refl
    go true false = refl
    go false true = refl
    go false false = refl

register-none : (s : List ℕ) (n : Netlist) (k : ℕ) → n.register_count ≤ k → drop k (decoded s n).registers ≡ []
unfolding decoded
register-none s n k h =
    let l : length (map (decoded_register s) (take n.register_count n.registers)) ≤ k = simp (length-map, length-take) (omega arith) in
    drop_of_length-le (map (decoded_register s) (take n.register_count n.registers)) l

module _ (s : List ℕ) (n : Netlist) (l : n.register_count ≤ length n.registers) where
  -- no register, no domain
  pub domains-none : n.register_count ≡ 0 → many_domains (decoded s n).nodes (decoded s n).registers ≡ false
  unfolding many_domains
  domains-none e = rw (register-none s n 0 (omega arith))

  -- the other registers have the domain of the first
  pub domains-first : 0 < n.register_count → many_domains (decoded s n).nodes (decoded s n).registers
      ≡ not (all_in (decoded s n).nodes (domain_of (decoded s n).nodes (decoded_register s (get_or n.registers 0 no_register))) (drop 1 (decoded s n).registers))
  unfolding many_domains
  domains-first h = ap (many_domains (decoded s n).nodes) (decoded-register s n 0 h l)

  -- one more register has it
  pub domains-more : (d : Domain) (k : ℕ) → k < n.register_count → same_domain d (domain_of (decoded s n).nodes (decoded_register s (get_or n.registers k no_register))) ≡ true
      → all_in (decoded s n).nodes d (drop k (decoded s n).registers) ≡ all_in (decoded s n).nodes d (drop (k + 1) (decoded s n).registers)
  unfolding all_in
  domains-more d k h e = rw (add-one, decoded-register s n k h l, e)

  -- one has another domain
  pub domains-apart : (d : Domain) (k : ℕ) → k < n.register_count → same_domain d (domain_of (decoded s n).nodes (decoded_register s (get_or n.registers k no_register))) ≡ false
      → all_in (decoded s n).nodes d (drop k (decoded s n).registers) ≡ false
  unfolding all_in
  domains-apart d k h e = rw (decoded-register s n k h l, e)

  -- all have it
  pub domains-all : (d : Domain) (k : ℕ) → n.register_count ≤ k → all_in (decoded s n).nodes d (drop k (decoded s n).registers) ≡ true
  unfolding all_in
  domains-all d k h = rw (register-none s n k h)

  -- the domain of a side
  pub domain-some : 0 < n.register_count → domain (decoded s n).nodes (decoded s n).registers ≡ some (domain_of (decoded s n).nodes (decoded_register s (get_or n.registers 0 no_register)))
  unfolding domain
  domain-some h = ap (domain (decoded s n).nodes) (decoded-register s n 0 h l)

-- the domain of a side without registers
domain-empty : (s : List ℕ) (n : Netlist) → n.register_count ≡ 0 → domain (decoded s n).nodes (decoded s n).registers ≡ none
unfolding domain
domain-empty s n e = rw (register-none s n 0 (omega arith))

-- no registers on the first side
pub differ-left : (s t : List ℕ) (gold gate : Netlist) → gate.register_count ≤ length gate.registers → gold.register_count ≡ 0
    → domains_differ (domain (decoded s gold).nodes (decoded s gold).registers) (domain (decoded t gate).nodes (decoded t gate).registers) ≡ not (eqb gate.register_count 0)
differ-left s t gold gate l e = rw (domain-empty s gold e) (⊎_elim
    (λ (z : 0 ≡ gate.register_count). rw (domain-empty t gate (sym z), eq-eqb gate.register_count 0 (sym z)) (unfold domains_differ in refl))
    (λ (z : 0 < gate.register_count). let n : gate.register_count ≡ 0 → ⊥ = λ q. omega arith in rw (domain-some t gate l z, ne_eqb gate.register_count 0 n) (unfold domains_differ in refl))
    (eq-or-lt_of_le (zero-le {n = gate.register_count})))

-- no registers on the second side
pub differ-right : (s t : List ℕ) (gold gate : Netlist) → gold.register_count ≤ length gold.registers → 0 < gold.register_count → gate.register_count ≡ 0
    → domains_differ (domain (decoded s gold).nodes (decoded s gold).registers) (domain (decoded t gate).nodes (decoded t gate).registers) ≡ true
unfolding domains_differ
differ-right s t gold gate l h e = rw (domain-some s gold l h, domain-empty t gate e)

-- the domains of two sides with registers
pub differ-some : (gold gate : Option Domain) (d e : Domain) → gold ≡ some d → gate ≡ some e → domains_differ gold gate ≡ not (same_domain d e)
unfolding domains_differ
differ-some gold gate d e p q = rw (p, q)

-- ---- resets

-- a register has no reset where its code is 0
no-reset : (c signal kind value : ℕ) → no_reset (decoded_reset c signal kind value) ≡ eqb c 0
unfolding decoded_reset no_reset
no-reset zero signal kind value = refl
no-reset (suc c) signal kind value = sym (ne_eqb (suc c) 0 (λ e. omega arith))

-- the test on a register's fields
pub lacks_right : (s : List ℕ) (n : Netlist) (k : ℕ) (cell : RegisterCell) → n.register_count ≤ length n.registers → (k < n.register_count → cell ≡ get_or n.registers k no_register)
    → lacks_reset k n.register_count cell ≡ no_reset_at (get_elem? (decoded s n).registers k)
unfolding lacks_reset no_reset_at decoded decoded_register
lacks_right s n k cell l e = by_lt k n.register_count
    (λ (h : k < n.register_count). rw (lt-ltb k n.register_count h, element (decoded_register s) n.registers n.register_count k no_register h l, e h) (sym (no-reset _ _ _ _)))
    (λ (h : n.register_count ≤ k). rw (le-ltb k n.register_count h, no_element (decoded_register s) n.registers n.register_count k h))

module _ (s : List ℕ) (side : ℕ) (rs : List Register) (o : Order) (k : ℕ) (f : Formed o) where
  -- a register with a reset is passed
  pub resets_more : k < o.count → no_reset_at (get_elem? rs (get_or o.entries k no_entry).number) ≡ false
      → resets_fault side rs (drop k (places s o)) ≡ resets_fault side rs (drop (k + 1) (places s o))
  unfolding resets_fault place_of refuse_if ◌otherwise◌
  resets_more h e = rw (add-one, place_at s o k h f, e)

  -- the first without one is found
  pub resets_here : k < o.count → no_reset_at (get_elem? rs (get_or o.entries k no_entry).number) ≡ true
      → resets_fault side rs (drop k (places s o)) ≡ some (refusal 22 side (get_or o.entries k no_entry).number)
  unfolding resets_fault place_of refusal refuse_if ◌otherwise◌
  resets_here h e = rw (place_at s o k h f, e)

  -- none is left
  pub resets_none : o.count ≤ k → resets_fault side rs (drop k (places s o)) ≡ none
  unfolding resets_fault
  resets_none h = let l : length (places s o) ≤ k = omega (arith, count-places s o f) in rw drop_of_length-le

-- ---- the checks in turn

module _ (gold gate : Design) where
  -- 20 on gold
  pub many_gold : many_domains gold.nodes gold.registers ≡ true → some (refusal 20 0 0) ≡ domains_fault gold gate
  unfolding domains_fault refusal refuse_if ◌otherwise◌
  many_gold e = rw e

  -- 20 on gate
  pub many_gate : many_domains gold.nodes gold.registers ≡ false → many_domains gate.nodes gate.registers ≡ true → some (refusal 20 1 0) ≡ domains_fault gold gate
  unfolding domains_fault refusal refuse_if ◌otherwise◌
  many_gate e f = rw (e, f)

  -- 21, or none of the two
  pub domains-end : (b : Bool) → many_domains gold.nodes gold.registers ≡ false → many_domains gate.nodes gate.registers ≡ false
      → domains_differ (domain gold.nodes gold.registers) (domain gate.nodes gate.registers) ≡ b → refuse_if 21 0 0 b ≡ domains_fault gold gate
  unfolding domains_fault refuse_if ◌otherwise◌
  domains-end b e f g = rw (e, f, g)

  -- input names differ by the orders
  pub inputs_by : (ps qs : List Place) (r : Bool) → ps ≡ Model.inputs gold → qs ≡ Model.inputs gate → r ≡ same_names (names_of ps) (names_of qs) → Pair.inputs_differ gold gate ≡ not r
  unfolding Pair.inputs_differ
  inputs_by ps qs r e f g = rw (← e, ← f, ← g)

  -- output names differ by the orders
  pub outputs_by : (ps qs : List Place) (r : Bool) → ps ≡ Model.outputs gold → qs ≡ Model.outputs gate → r ≡ same_names (names_of ps) (names_of qs) → Pair.outputs_differ gold gate ≡ not r
  unfolding Pair.outputs_differ
  outputs_by ps qs r e f g = rw (← e, ← f, ← g)

  -- 18
  pub inputs_fault : Pair.inputs_differ gold gate ≡ true → some (refusal 18 0 0) ≡ Pair.interface_fault gold gate
  unfolding Pair.interface_fault refusal refuse_if ◌otherwise◌
  inputs_fault e = rw e

  -- 19
  pub outputs_fault : Pair.inputs_differ gold gate ≡ false → Pair.outputs_differ gold gate ≡ true → some (refusal 19 0 0) ≡ Pair.interface_fault gold gate
  unfolding Pair.interface_fault refusal refuse_if ◌otherwise◌
  outputs_fault e f = rw (e, f)

  -- 20 and 21 decide
  pub interface_end : Pair.inputs_differ gold gate ≡ false → Pair.outputs_differ gold gate ≡ false → domains_fault gold gate ≡ Pair.interface_fault gold gate
  unfolding Pair.interface_fault domains_fault refuse_if ◌otherwise◌
  interface_end e f = rw (e, f)

-- the resets by the orders are those of the designs
pub initial_of : (s t : List ℕ) (gold gate : Travelling.Design) → Sided s gold → Sided t gate
    → (resets_fault 0 (decoded s gold.netlist).registers (places s gold.registers) otherwise resets_fault 1 (decoded t gate.netlist).registers (places t gate.registers))
    ≡ initial_fault (decoded s gold.netlist) (decoded t gate.netlist)
unfolding initial_fault
initial_of s t gold gate v u = rw (v.ordered.registers_are, u.ordered.registers_are)
