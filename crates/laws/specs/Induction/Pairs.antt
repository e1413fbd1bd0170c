-- Pairs of records and designs: what an accepted pair has, and that it stays accepted when swapped. Assumes nothing.
use Rattle.std.specs.Prelude.{ℕ, ◌≤◌, ◌≡◌, refl, true, false, not, ◌&&◌, List, [], ◌∷◌, length, eqb, ltb}
use Rattle.std.proofs.Common.{sym, ap, ap₂, ◌∙◌, subst, arith, add_comm, ltb-false}
use Rattle.std.proofs.Math.Option.{Option, none, some}
use Rattle.std.proofs.lemmas.List.{length-map}
use Rattle.std.proofs.lemmas.Bool.{not-false, eqb-false}
use Rattle.model.specs.Options.{Options, learned_limit}
use Rattle.model.specs.Names.{Name, Place, same_name, same_names, names_of}
use Rattle.facts.specs.Bools.{and_left, and_right}
use Rattle.laws.specs.Terms.{Comparable}
use Rattle.laws.specs.Names.Order.{same_eq, same_refl, same-sym}
use Rattle.model.specs.Netlist.{Edge, Rising, Falling, Register, Design, inputs, outputs, registers_by_name, input_count, output_count, node_count, register_count}
use Rattle.model.specs.Record.{Read, parsed, refused_record}
use Rattle.model.specs.Validate.{refuse_if, read_record}
use Rattle.laws.specs.Record.Accepted.{otherwise_none, refuse_if-none, accepted-parsed, none_otherwise, pass}
use Rattle.model.specs.Pair.{Domain, same_edge, same_domain, many_domains, domain, domains_differ, inputs_differ, outputs_differ, interface_fault, resets_fault, initial_fault, nodes_per_cycle, proof_nodes, Lent, trace_length, too_short, check_fault, ReadPair, both, refused_pair, with_gate, with_gold, read_pair, check_refusal_of, check_refusal}

-- ---- both records read

with_gate-both : (g x y : Design) (r : Read) → with_gate g r ≡ both x y → (g ≡ x) × (r ≡ parsed y)
unfolding with_gate
with_gate-both g x y (parsed h) e = (cc, let f : h ≡ y = cc in cc)
with_gate-both g x y (refused_record q) e = absurd (let z : ◌≡◌ {A = ℕ} 0 1 = cc in omega arith)

with_gold-both : (r : Read) (b : List ℕ) (x y : Design) → with_gold r b ≡ both x y → (r ≡ parsed x) × (read_record b ≡ parsed y)
unfolding with_gold
with_gold-both (parsed g) b x y e = let w = with_gate-both g x y (read_record b) e in let f : g ≡ x = w.0 in (cc, w.1)
with_gold-both (refused_record q) b x y e = absurd (let z : ◌≡◌ {A = ℕ} 0 1 = cc in omega arith)

-- a pair that is read: both records are accepted
pub read_pair-both : (a b : List ℕ) (x y : Design) → read_pair a b ≡ both x y → (read_record a ≡ parsed x) × (read_record b ≡ parsed y)
unfolding read_pair
read_pair-both a b x y e = with_gold-both (read_record a) b x y e

-- and the other way round
pub read_pair_of : (a b : List ℕ) (g h : Design) → read_record a ≡ parsed g → read_record b ≡ parsed h → read_pair a b ≡ both g h
unfolding read_pair with_gold with_gate
read_pair_of a b g h p q = rw (p, q)

-- a record has one design
pub one-design : (a : List ℕ) (g h : Design) → read_record a ≡ parsed g → read_record a ≡ parsed h → g ≡ h
one-design a g h p q = cc

-- the designs of a pair that no refusal of a check applies to
pub record Accepted (a b : List ℕ) (o : Options) (lent : Lent) : Type 0 where
  pub gold : Design
  pub gate : Design
  pub pair : read_pair a b ≡ both gold gate
  pub free : check_fault gold gate o lent ≡ none

accepted-at : (a b : List ℕ) (o : Options) (lent : Lent) (r : ReadPair) → read_pair a b ≡ r → check_refusal_of r o lent ≡ none → Accepted a b o lent
unfolding check_refusal_of
accepted-at a b o lent (both g h) e n = record { gold = g; gate = h; pair = e; free = n }
accepted-at a b o lent (refused_pair q) e n = absurd (let z : ◌≡◌ {A = ℕ} 0 1 = cc in omega arith)

-- a check that is not refused has two designs
pub accepted-pair : (a b : List ℕ) (o : Options) (lent : Lent) → check_refusal a b o lent ≡ none → Accepted a b o lent
unfolding check_refusal
accepted-pair a b o lent n = accepted-at a b o lent (read_pair a b) refl n

-- to them none of a pair's refusals applies
pub free_of : (a b : List ℕ) (o : Options) (lent : Lent) (gold gate : Design) → check_refusal a b o lent ≡ none → read_pair a b ≡ both gold gate → check_fault gold gate o lent ≡ none
unfolding check_refusal check_refusal_of
free_of a b o lent gold gate h r = subst (λ (x : ReadPair). check_refusal_of x o lent ≡ none) r h

-- ---- what an accepted pair has

-- names that are tested to be the same are
pub same_names_lem : (xs ys : List Name) → same_names xs ys ≡ true → xs ≡ ys
unfolding same_names
same_names_lem [] [] h = refl
same_names_lem [] (y ∷ ys) h = absurd (let z : ◌≡◌ {A = ℕ} 0 1 = cc in omega arith)
same_names_lem (x ∷ xs) [] h = absurd (let z : ◌≡◌ {A = ℕ} 0 1 = cc in omega arith)
same_names_lem (x ∷ xs) (y ∷ ys) h = ap₂ ◌∷◌ (same_eq x y (and_left (same_name x y) _ h)) (same_names_lem xs ys (and_right (same_name x y) _ h))

-- what holds of a pair to which none of its refusals applies
pub record Facts (gold gate : Design) (o : Options) (lent : Lent) : Type 0 where
  pub depth_low : eqb o.depth 0 ≡ false
  pub depth_high : ltb 64 o.depth ≡ false
  pub limit_high : ltb learned_limit o.limit ≡ false
  pub input_names : inputs_differ gold gate ≡ false
  pub output_names : outputs_differ gold gate ≡ false
  pub gold_domain : many_domains gold.nodes gold.registers ≡ false
  pub gate_domain : many_domains gate.nodes gate.registers ≡ false
  pub domains : domains_differ (domain gold.nodes gold.registers) (domain gate.nodes gate.registers) ≡ false
  pub gold_resets : resets_fault 0 gold.registers (registers_by_name gold) ≡ none
  pub gate_resets : resets_fault 1 gate.registers (registers_by_name gate) ≡ none
  pub small : ltb 65535 (proof_nodes gold gate o.depth) ≡ false
  pub memory : too_short gold o.depth lent ≡ false

-- what a pair has where none of its refusals applies
pub facts_of : (gold gate : Design) (o : Options) (lent : Lent) → check_fault gold gate o lent ≡ none → Facts gold gate o lent
unfolding check_fault interface_fault initial_fault
facts_of gold gate o lent h =
    let a16 = otherwise_none (refuse_if 16 0 0 _) _ h in
    let a17 = otherwise_none (refuse_if 17 0 0 _) _ a16.1 in
    let a36 = otherwise_none (refuse_if 36 0 0 _) _ a17.1 in
    let face = otherwise_none (interface_fault gold gate) _ a36.1 in
    let a18 = otherwise_none (refuse_if 18 0 0 _) _ face.0 in
    let a19 = otherwise_none (refuse_if 19 0 0 _) _ a18.1 in
    let a20 = otherwise_none (refuse_if 20 0 0 _) _ a19.1 in
    let b20 = otherwise_none (refuse_if 20 1 0 _) _ a20.1 in
    let start = otherwise_none (initial_fault gold gate) _ face.1 in
    let a22 = otherwise_none (resets_fault 0 gold.registers (registers_by_name gold)) _ start.0 in
    let a23 = otherwise_none (refuse_if 23 0 0 _) _ start.1 in
    record {
      depth_low = refuse_if-none 16 0 0 _ a16.0;
      depth_high = refuse_if-none 17 0 0 _ a17.0;
      limit_high = refuse_if-none 36 0 0 _ a36.0;
      input_names = refuse_if-none 18 0 0 _ a18.0;
      output_names = refuse_if-none 19 0 0 _ a19.0;
      gold_domain = refuse_if-none 20 0 0 _ a20.0;
      gate_domain = refuse_if-none 20 1 0 _ b20.0;
      domains = refuse_if-none 21 0 0 _ b20.1;
      gold_resets = a22.0;
      gate_resets = a22.1;
      small = refuse_if-none 23 0 0 _ a23.0;
      memory = refuse_if-none 24 0 0 _ a23.1;
    }

-- the designs of a check that is not refused are comparable
pub comparable : (a b : List ℕ) (o : Options) (lent : Lent) (gold gate : Design) → check_refusal a b o lent ≡ none → read_pair a b ≡ both gold gate → Comparable gold gate
unfolding inputs_differ outputs_differ
comparable a b o lent gold gate h r =
    let f : Facts gold gate o lent = facts_of gold gate o lent (free_of a b o lent gold gate h r) in
    let x = read_pair-both a b gold gate r in
    record {
      gold_valid = (accepted-parsed a gold x.0).1;
      gate_valid = (accepted-parsed b gate x.1).1;
      input_names = same_names_lem (names_of (inputs gold)) (names_of (inputs gate)) (not-false _ f.input_names);
      output_names = same_names_lem (names_of (outputs gold)) (names_of (outputs gate)) (not-false _ f.output_names);
    }

-- and it is to depth 1 or more
pub depth-positive : (gold gate : Design) (o : Options) (lent : Lent) → check_fault gold gate o lent ≡ none → 1 ≤ o.depth
depth-positive gold gate o lent h = omega (arith, eqb-false o.depth 0 (facts_of gold gate o lent h).depth_low)

-- under a limit of at most 262,144
pub limit_small : (gold gate : Design) (o : Options) (lent : Lent) → check_fault gold gate o lent ≡ none → o.limit ≤ 262144
unfolding learned_limit
limit_small gold gate o lent h = ltb-false 262144 o.limit (facts_of gold gate o lent h).limit_high

no_fault : (gold gate : Design) (o : Options) (lent : Lent) → Facts gold gate o lent → check_fault gold gate o lent ≡ none
unfolding check_fault interface_fault initial_fault
no_fault gold gate o lent f =
    none_otherwise _ _ (pass 16 0 0 _ f.depth_low)
    (none_otherwise _ _ (pass 17 0 0 _ f.depth_high)
    (none_otherwise _ _ (pass 36 0 0 _ f.limit_high)
    (none_otherwise _ _ (none_otherwise _ _ (pass 18 0 0 _ f.input_names)
    (none_otherwise _ _ (pass 19 0 0 _ f.output_names)
    (none_otherwise _ _ (pass 20 0 0 _ f.gold_domain)
    (none_otherwise _ _ (pass 20 1 0 _ f.gate_domain) (pass 21 0 0 _ f.domains)))))
    (none_otherwise _ _ (none_otherwise _ _ f.gold_resets f.gate_resets)
    (none_otherwise _ _ (pass 23 0 0 _ f.small) (pass 24 0 0 _ f.memory))))))

-- ---- swapped

-- names are the same as themselves
pub names-refl : (xs : List Name) → same_names xs xs ≡ true
unfolding same_names
names-refl [] = refl
names-refl (x ∷ xs) = rw (same_refl x) (names-refl xs)

names_swap : (xs ys : List Name) → not (same_names xs ys) ≡ false → not (same_names ys xs) ≡ false
names_swap xs ys h = let e : xs ≡ ys = same_names_lem xs ys (not-false _ h) in subst (λ (z : List Name). not (same_names z xs) ≡ false) e (ap not (names-refl xs))

-- lists of places with the same names are as long
pub names-length : (ps qs : List Place) → not (same_names (names_of ps) (names_of qs)) ≡ false → length ps ≡ length qs
unfolding names_of
names-length ps qs h = sym (length-map ps _) ∙ ap length (same_names_lem (names_of ps) (names_of qs) (not-false _ h)) ∙ length-map qs _

edge_swap : (a b : Edge) → same_edge a b ≡ same_edge b a
unfolding same_edge
edge_swap Rising Rising = refl
edge_swap Rising Falling = refl
edge_swap Falling Rising = refl
edge_swap Falling Falling = refl

domains_swap : (a b : Option Domain) → domains_differ a b ≡ domains_differ b a
unfolding domains_differ same_domain
domains_swap none none = refl
domains_swap none (some b) = refl
domains_swap (some a) none = refl
domains_swap (some a) (some b) = ap not (ap₂ ◌&&◌ (same-sym a.clock b.clock) (edge_swap a.edge b.edge))

resets_side : (a b : ℕ) (rs : List Register) (ps : List Place) → resets_fault a rs ps ≡ none → resets_fault b rs ps ≡ none
unfolding resets_fault
resets_side a b rs [] h = refl
resets_side a b rs (p ∷ ps) h =
    let o = otherwise_none (refuse_if 22 a p.number _) _ h in
    none_otherwise _ _ (pass 22 b p.number _ (refuse_if-none 22 a p.number _ o.0)) (resets_side a b rs ps o.1)

proof_nodes_swap : (gold gate : Design) (D : ℕ) → input_count gold ≡ input_count gate → output_count gold ≡ output_count gate → proof_nodes gold gate D ≡ proof_nodes gate gold D
unfolding proof_nodes nodes_per_cycle
proof_nodes_swap gold gate D i o = rw (i, o, add_comm (node_count gold) (node_count gate), add_comm (register_count gold) (register_count gate))

too_short_swap : (gold gate : Design) (D : ℕ) (lent : Lent) → input_count gold ≡ input_count gate → output_count gold ≡ output_count gate → too_short gold D lent ≡ too_short gate D lent
unfolding too_short trace_length
too_short_swap gold gate D lent i o = rw (i, o)

facts_swap : (gold gate : Design) (o : Options) (lent : Lent) → Facts gold gate o lent → Facts gate gold o lent
unfolding inputs_differ outputs_differ input_count output_count
facts_swap gold gate o lent f =
    let i : input_count gold ≡ input_count gate = names-length (inputs gold) (inputs gate) f.input_names in
    let n : output_count gold ≡ output_count gate = names-length (outputs gold) (outputs gate) f.output_names in
    record {
      depth_low = f.depth_low;
      depth_high = f.depth_high;
      limit_high = f.limit_high;
      input_names = names_swap (names_of (inputs gold)) (names_of (inputs gate)) f.input_names;
      output_names = names_swap (names_of (outputs gold)) (names_of (outputs gate)) f.output_names;
      gold_domain = f.gate_domain;
      gate_domain = f.gold_domain;
      domains = domains_swap _ _ ∙ f.domains;
      gold_resets = resets_side 1 0 gate.registers (registers_by_name gate) f.gate_resets;
      gate_resets = resets_side 0 1 gold.registers (registers_by_name gold) f.gold_resets;
      small = ap (ltb 65535) (sym (proof_nodes_swap gold gate o.depth i n)) ∙ f.small;
      memory = sym (too_short_swap gold gate o.depth lent i n) ∙ f.memory;
    }

-- a swapped pair is accepted where the pair is
pub refusal_swap : (a b : List ℕ) (o : Options) (lent : Lent) → check_refusal a b o lent ≡ none → check_refusal b a o lent ≡ none
unfolding check_refusal check_refusal_of
refusal_swap a b o lent h =
    let k : Accepted a b o lent = accepted-pair a b o lent h in
    let r = read_pair-both a b k.gold k.gate k.pair in
    rw (read_pair_of b a k.gate k.gold r.1 r.0) (no_fault k.gate k.gold o lent (facts_swap k.gold k.gate o lent (facts_of k.gold k.gate o lent k.free)))
