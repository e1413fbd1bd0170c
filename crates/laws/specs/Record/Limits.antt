-- Limits of a parsed design: at most 128 registers, 64 Inputs and 64 Outputs. Assumes nothing.
use Rattle.std.specs.Prelude.{ℕ, zero, suc, ◌+◌, ◌≤◌, ◌≡◌, Bool, true, false, not, cond, ◌&&◌, List, [], ◌∷◌, ◌++◌, length, eqb, leb}
use Rattle.std.proofs.Common.{ap, subst, arith, length-append, leb-true, leb-false}
use Rattle.std.proofs.lemmas.Bool.{not-true}
use Rattle.model.specs.Kinds.{input_kind, output_kind}
use Rattle.model.specs.Netlist.{Node, Register, Design, input_name, output_name, ports_from}
use Rattle.model.specs.Record.{got, Reader, pure, number, code, guard, room, name_if, value_if, has_name, has_value, numbers, inputs_per_kind, node_of, node, nodes_from, nodes, register, registers_from, registers, end, name, listed_kind, version1, parsed, parse}
use Rattle.facts.specs.Bools.{and_both}
use Rattle.laws.specs.Record.Reader.{Both, bind_got, Passed, guard-got, parse-version1}
use Rattle.laws.specs.Record.Ports.{inputs_append, outputs_append}

-- ---- registers

registers_from-length : (one : Reader Register) (k : ℕ) (rs qs : List Register) (s : List ℕ) (i j : ℕ) → registers_from one k rs s i ≡ got qs j → length qs ≡ length rs + k
unfolding registers_from pure
registers_from-length one zero rs qs s i j h = let e : rs ≡ qs = cc in omega (arith, ap length e)
registers_from-length one (suc k) rs qs s i j h =
    let b : Both one _ s i qs j = bind_got one _ s i qs j h in
    omega (arith, registers_from-length one k (rs ++ (b.value ∷ [])) qs s b.at j b.second, length-append rs (b.value ∷ []))

registers-length : (one : Reader Register) (qs : List Register) (s : List ℕ) (i j : ℕ) → registers one s i ≡ got qs j → length qs ≤ 128
unfolding registers
registers-length one qs s i j h =
    let b : Both _ (λ n. registers_from one n []) s i qs j = bind_got _ (λ n. registers_from one n []) s i qs j h in
    let g : Passed (λ n. leb n 128) number s i b.value b.at = guard-got 6 (λ n. leb n 128) number s i b.value b.at b.first in
    omega (arith, registers_from-length one b.value [] qs s b.at j b.second, leb-true b.value 128 g.passes)

-- ---- ports

-- room for the kind, or another kind
room-count : (b : Bool) (n : ℕ) → not (b && leb 64 n) ≡ true → n ≤ 64 → n + cond b 1 0 ≤ 64
room-count true n h l = omega (arith, leb-false 64 n (not-true (leb 64 n) h))
room-count false n h l = omega arith

-- a node keeps the ports within 64
node-ports : (listed : ℕ → Bool) (ns : List Node) (n : Node) (s : List ℕ) (i j : ℕ) → node listed ns s i ≡ got n j → length (ports_from input_name 0 ns) ≤ 64 → length (ports_from output_name 0 ns) ≤ 64 → (length (ports_from input_name 0 (ns ++ (n ∷ []))) ≤ 64) × (length (ports_from output_name 0 (ns ++ (n ∷ []))) ≤ 64)
unfolding node pure room
node-ports listed ns n s i j h li lo =
    let b = bind_got (guard 6 (room ns) (code listed)) _ s i n j h in
    let k : ℕ = b.value in
    let g = guard-got 6 (room ns) (code listed) s i k b.at b.first in
    let r = and_both (not (eqb k input_kind && leb 64 (length (ports_from input_name 0 ns)))) (not (eqb k output_kind && leb 64 (length (ports_from output_name 0 ns)))) g.passes in
    let c = bind_got (name_if (has_name k)) _ s b.at n j b.second in
    let d = bind_got (value_if (has_value k)) _ s c.at n j c.second in
    let e = bind_got (numbers (inputs_per_kind k)) _ s d.at n j d.second in
    let f : node_of k c.value d.value e.value ≡ n = cc in
    let x = room-count (eqb k input_kind) (length (ports_from input_name 0 ns)) r.0 li in
    let y = room-count (eqb k output_kind) (length (ports_from output_name 0 ns)) r.1 lo in
    rw (← f) (omega (arith, inputs_append k c.value d.value e.value 0 ns, x), omega (arith, outputs_append k c.value d.value e.value 0 ns, y))

nodes_from-ports : (listed : ℕ → Bool) (k : ℕ) (ns ms : List Node) (s : List ℕ) (i j : ℕ) → nodes_from listed k ns s i ≡ got ms j → length (ports_from input_name 0 ns) ≤ 64 → length (ports_from output_name 0 ns) ≤ 64 → (length (ports_from input_name 0 ms) ≤ 64) × (length (ports_from output_name 0 ms) ≤ 64)
unfolding nodes_from pure
nodes_from-ports listed zero ns ms s i j h li lo = let e : ns ≡ ms = cc in (subst (λ (x : List Node). length (ports_from input_name 0 x) ≤ 64) e li, subst (λ (x : List Node). length (ports_from output_name 0 x) ≤ 64) e lo)
nodes_from-ports listed (suc k) ns ms s i j h li lo =
    let b : Both (node listed ns) _ s i ms j = bind_got (node listed ns) _ s i ms j h in
    let p = node-ports listed ns b.value s i b.at b.first li lo in
    nodes_from-ports listed k (ns ++ (b.value ∷ [])) ms s b.at j b.second p.0 p.1

nodes-ports : (listed : ℕ → Bool) (ms : List Node) (s : List ℕ) (i j : ℕ) → nodes listed s i ≡ got ms j → (length (ports_from input_name 0 ms) ≤ 64) × (length (ports_from output_name 0 ms) ≤ 64)
unfolding nodes ports_from
nodes-ports listed ms s i j h =
    let b : Both _ (λ n. nodes_from listed n []) s i ms j = bind_got _ (λ n. nodes_from listed n []) s i ms j h in
    nodes_from-ports listed b.value [] ms s b.at j b.second (omega arith) (omega arith)

-- ---- a parsed design

-- a design within the specification's counts
pub record Limits (d : Design) : Type 0 where
  pub registers : length d.registers ≤ 128
  pub inputs : length (ports_from input_name 0 d.nodes) ≤ 64
  pub outputs : length (ports_from output_name 0 d.nodes) ≤ 64

version1_limits : (s : List ℕ) (i k : ℕ) (d : Design) → version1 s i ≡ got d k → Limits d
unfolding version1 pure
version1_limits s i k d h =
    let a : Both name _ s i d k = bind_got name _ s i d k h in
    let b : Both (nodes listed_kind) _ s a.at d k = bind_got (nodes listed_kind) _ s a.at d k a.second in
    let c : Both (registers register) _ s b.at d k = bind_got (registers register) _ s b.at d k b.second in
    let e : Both end _ s c.at d k = bind_got end _ s c.at d k c.second in
    let f : record { name = a.value; nodes = b.value; registers = c.value } ≡ d = cc in
    let p = nodes-ports listed_kind b.value s a.at b.at b.first in
    subst Limits f (record { registers = registers-length register c.value s b.at c.at c.first; inputs = p.0; outputs = p.1 })

-- every parsed design is
pub parse_limits : (s : List ℕ) (d : Design) → parse s ≡ parsed d → Limits d
parse_limits s d h = let v = parse-version1 s d h in version1_limits s 5 v.0 d v.1
