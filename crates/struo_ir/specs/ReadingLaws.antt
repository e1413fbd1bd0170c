-- Laws of a reading: its outcome by the steps that the reader takes. Assumes nothing.
use Rattle.std.specs.Prelude.{ℕ, ◌+◌, ◌*◌, ◌≤◌, ◌<◌, true, false, ◌&&◌, List, [], ◌∷◌, get_or, take, drop, replicate, eqb, Result, Ok, Err}
use Rattle.std.proofs.Math.Path.{◌≡◌, refl, ap}
use Rattle.std.proofs.Common.{sym, ◌∙◌, arith}
use Rattle.std.proofs.Math.ListN.{length}
use Rattle.std.proofs.lemmas.List.{length-replicate}
use Rattle.std.proofs.Math.Dec.{leb}
use borrow.Author.Tests.{le-leb, lt-leb, leb-true, eq-eqb, ne_eqb}
use Rattle.facts.specs.Bools.{and_both}
use Rattle.facts.specs.Lists.{get_or-replicate}
use Rattle.model.specs.Names.{Name}
use Rattle.model.specs.Lists.{member}
use Rattle.model.specs.Netlist as Model
use Rattle.model.specs.Record.{Step, got, refused, Reader, refuse, pure, go_on, ◌>>=◌, guard, big_endian, number, name, nodes, nodes_from, registers, registers_from, register, kinds, listed_kind, end, version1, version_of, length_fits, parsed, refused_record, finished, parse_fields, parse_sized, parse}
use Rattle.calls.specs.Faults.{refusal}
use Rattle.calls.specs.Causes.{numbers_of}
use Rattle.calls.specs.declared.refusal.Refusal.{Refusal}
use Rattle.struo_ir.specs.declared.nodes.Nodes.{Nodes}
use Rattle.struo_ir.specs.declared.registers.Registers.{Registers}
use Rattle.struo_ir.specs.Decoded.{name_at}
use Rattle.fields.specs.Fields.{map_step, placed}
use Rattle.fields.specs.FieldLaws.{bind_refused, bind_got, guard_passed}
use Rattle.struo_ir.specs.Nodes.{nodes_to, nodes_of, no_node, NodesRead}
use Rattle.struo_ir.specs.Designs.{NodesPadded, RegistersPadded}
use Rattle.struo_ir.specs.Reading.{refused_at, NodesCounted, RegistersCounted, design_of, from_registers, from_nodes}
use Rattle.struo_ir.specs.Registers.{registers_to, registers_of, no_register, RegistersRead}
use Rattle.struo_ir.specs.StepLaws.{name-at}

-- ---- empty arrays, refused readings

pub no-nodes-padded : NodesPadded 0 (replicate 1024 no_node)
unfolding listed_kind kinds member
no-nodes-padded = record { size = length-replicate 1024 no_node; fits = omega arith; past = λ k h. get_or-replicate 1024 k no_node; listed = λ k. rw (get_or-replicate 1024 k no_node) }

pub no-registers-padded : RegistersPadded 0 (replicate 128 no_register)
no-registers-padded = record { size = length-replicate 128 no_register; fits = omega arith; past = λ k h. get_or-replicate 128 k no_register }

-- ---- counts

module _ (s : List ℕ) (at : ℕ) where
  pub nodes-not-counted : (r : Refusal) → refused (numbers_of r) ≡ nodes listed_kind s at → NodesCounted s at (Err r)
  unfolding nodes_of
  nodes-not-counted r h = record { step = h; whole = λ n next f. absurd cc }

  pub registers-not-counted : (r : Refusal) → refused (numbers_of r) ≡ registers register s at → RegistersCounted s at (Err r)
  unfolding registers_of
  registers-not-counted r h = record { step = h; whole = λ n next f. absurd cc }

  module _ (count next : ℕ) (g : got count next ≡ number s at) where
    pub nodes-counted : (field : Result (Nodes × ℕ) Refusal) → count ≤ 1024 → NodesRead s count next field → NodesCounted s at field
    unfolding nodes
    nodes-counted field l r =
        record {
          step = r.step ∙ bind_got (guard 6 (λ n. leb n 1024) number) (λ n. nodes_from listed_kind n []) s at count next (guard_passed 6 (λ n. leb n 1024) number s at count next g (sym (le-leb count 1024 l)));
          whole = λ n after f. let w = r.whole n after f in record { size = w.1.size; fits = omega (arith, w.0); past = λ k h. w.1.past k (omega (arith, w.0)); listed = w.1.listed };
        }

    pub registers-counted : (field : Result (Registers × ℕ) Refusal) → count ≤ 128 → RegistersRead s count next field → RegistersCounted s at field
    unfolding registers
    registers-counted field l r =
        record {
          step = r.step ∙ bind_got (guard 6 (λ n. leb n 128) number) (λ n. registers_from register n []) s at count next (guard_passed 6 (λ n. leb n 128) number s at count next g (sym (le-leb count 128 l)));
          whole = λ n after f. let w = r.whole n after f in record { size = w.1.size; fits = omega (arith, w.0); past = λ k h. w.1.past k (omega (arith, w.0)) };
        }

-- ---- from the registers on

module _ (ns : List Model.Node) (s : List ℕ) (at : ℕ) (field : Result (Registers × ℕ) Refusal) (r : RegistersCounted s at field) where
  pub rest-refused : (x : Refusal) → field ≡ Err x → refused_record (numbers_of x) ≡ from_registers ns s at
  unfolding from_registers finished registers_of
  rest-refused x e = ap finished (bind_refused (registers register) (design_of s ns) s at _ (ap (registers_of s) (sym e) ∙ r.step))

  module _ (rs : Registers) (after : ℕ) (e : field ≡ Ok (rs, after)) where
    -- all registers are read
    read-registers : design_of s ns (registers_to s rs.registers rs.count) s after ≡ ◌>>=◌ (registers register) (design_of s ns) s at
    unfolding registers_of
    read-registers = bind_got (registers register) (design_of s ns) s at (registers_to s rs.registers rs.count) after (ap (registers_of s) (sym e) ∙ r.step)

    pub rest-left : after < length s → refused_at 3 after ≡ from_registers ns s at
    unfolding from_registers refusal refused_at design_of ◌>>=◌ end go_on finished refuse
    rest-left l = left l ∙ ap finished read-registers
      where
        left : after < length s → refused_record (record { number = 3; side = 0; place = after }) ≡ finished (design_of s ns (registers_to s rs.registers rs.count) s after)
        left l = rw (lt-leb (length s) after l)

    pub rest-done : length s ≤ after → parsed (record { name = name_at s 5; nodes = ns; registers = registers_to s rs.registers rs.count }) ≡ from_registers ns s at
    unfolding from_registers design_of ◌>>=◌ end go_on finished pure
    rest-done l = done l ∙ ap finished read-registers
      where
        done : length s ≤ after → parsed (record { name = name_at s 5; nodes = ns; registers = registers_to s rs.registers rs.count }) ≡ finished (design_of s ns (registers_to s rs.registers rs.count) s after)
        done l = rw (le-leb (length s) after l)

-- ---- from the nodes on

module _ (s : List ℕ) (at : ℕ) (field : Result (Nodes × ℕ) Refusal) (r : NodesCounted s at field) where
  pub nodes-refused-at : (x : Refusal) → field ≡ Err x → refused_record (numbers_of x) ≡ from_nodes s at
  unfolding from_nodes finished nodes_of
  nodes-refused-at x e = ap finished (bind_refused (nodes listed_kind) (λ ns. ◌>>=◌ (registers register) (design_of s ns)) s at _ (ap (nodes_of s) (sym e) ∙ r.step))

  pub nodes_then : (n : Nodes) (after : ℕ) → field ≡ Ok (n, after) → from_registers (nodes_to s n.nodes n.count) s after ≡ from_nodes s at
  unfolding from_nodes from_registers nodes_of
  nodes_then n after e = ap finished (bind_got (nodes listed_kind) (λ ns. ◌>>=◌ (registers register) (design_of s ns)) s at (nodes_to s n.nodes n.count) after (ap (nodes_of s) (sym e) ∙ r.step))

-- ---- from the design's name on

-- the definition's reader after the name
after-name : Name → Reader Model.Design
after-name n = do
  ns ← nodes listed_kind
  rs ← registers register
  e ← end
  pure (record { name = n; nodes = ns; registers = rs })

module _ (s : List ℕ) where
  pub design-refused : (x : Refusal) → refused (numbers_of x) ≡ placed 5 (name s 5) → refused_record (numbers_of x) ≡ finished (version1 s 5)
  unfolding version1 ◌>>=◌ after-name placed map_step go_on finished
  design-refused x e = go (name s 5) e
    where
      go : (y : Step Name) → ◌≡◌ {A = Step ℕ} (refused (numbers_of x)) (map_step (λ m. 5) y) → refused_record (numbers_of x) ≡ finished (go_on after-name s y)
      go (got m j) e = absurd cc
      go (refused y) e = let f : numbers_of x ≡ y = cc in ap refused_record f

  pub design-named : (p j : ℕ) → got p j ≡ placed 5 (name s 5) → from_nodes s j ≡ finished (version1 s 5)
  unfolding version1 ◌>>=◌ after-name placed map_step go_on from_nodes design_of
  design-named p j e = go (name s 5) refl e
    where
      go : (x : Step Name) → name s 5 ≡ x → got p j ≡ map_step (λ m. 5) x → from_nodes s j ≡ finished (go_on after-name s x)
      go (got m k) h e = let f : j ≡ k = cc in ap (λ (i : ℕ). from_nodes s i) f ∙ ap (λ (x : Name). finished (after-name x s k)) (name-at s 5 m k h)
      go (refused x) h e = absurd (let z : ◌≡◌ {A = ℕ} 0 1 = cc in omega arith)

-- ---- the length and the version

pub length-bytes : (s : List ℕ) → 5 ≤ length s → ((get_or s 1 0 * 256 + get_or s 2 0) * 256 + get_or s 3 0) * 256 + get_or s 4 0 ≡ big_endian 0 (take 4 (drop 1 s))
unfolding big_endian
length-bytes [] h = absurd (omega arith)
length-bytes (a ∷ []) h = absurd (omega arith)
length-bytes (a ∷ b ∷ []) h = absurd (omega arith)
length-bytes (a ∷ b ∷ c ∷ []) h = absurd (omega arith)
length-bytes (a ∷ b ∷ c ∷ d ∷ []) h = absurd (omega arith)
length-bytes (a ∷ b ∷ c ∷ d ∷ e ∷ s) h = omega arith

module _ (s : List ℕ) where
  pub too_short : length s < 5 → false ≡ length_fits s
  unfolding length_fits
  too_short h = rw (lt-leb 5 (length s) h)

  pub too_long : 5 ≤ length s → 65535 < length s → false ≡ length_fits s
  unfolding length_fits
  too_long l h = rw (le-leb 5 (length s) l, lt-leb (length s) 65535 h)

  pub by_field : 5 ≤ length s → length s ≤ 65535 → eqb (big_endian 0 (take 4 (drop 1 s))) (length s) ≡ length_fits s
  unfolding length_fits
  by_field l h = rw (le-leb 5 (length s) l, le-leb (length s) 65535 h)

  pub fitting : length_fits s ≡ true → (5 ≤ length s) × (length s ≤ 65535)
  unfolding length_fits
  fitting h = let u = and_both (leb 5 (length s) && leb (length s) 65535) _ h in let v = and_both (leb 5 (length s)) (leb (length s) 65535) u.0 in (leb-true 5 (length s) v.0, leb-true (length s) 65535 v.1)

  pub unsized : length_fits s ≡ false → refused_at 1 0 ≡ parse s
  unfolding parse parse_sized finished refuse refusal refused_at
  unsized h = rw h

  pub unversioned : length_fits s ≡ true → (get_or s 0 0 ≡ 1 → ⊥) → refused_at 2 0 ≡ parse s
  unfolding parse parse_sized version_of parse_fields finished refuse refusal refused_at
  unversioned h v = rw (h, ne_eqb (get_or s 0 0) 1 v)

  pub versioned : length_fits s ≡ true → get_or s 0 0 ≡ 1 → finished (version1 s 5) ≡ parse s
  unfolding parse parse_sized version_of parse_fields
  versioned h v = rw (h, eq-eqb (get_or s 0 0) 1 v)
