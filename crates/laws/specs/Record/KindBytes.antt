-- The kind byte of a node: divided by 16 it is the number of inputs of a node that is read; where it is not listed the record is refused with 4 at that byte, whatever stands behind it. Assumes nothing.
use Prim.Native.Nat.{ℕ, zero, suc, ◌+◌, ◌-◌, ◌/◌, ◌≤◌, ◌<◌}
use Rattle.std.proofs.Common.{arith, sym, ◌∙◌}
use Rattle.std.specs.Prelude.{◌≡◌, refl, Bool, true, false, cond, length, get_or}
use Rattle.std.proofs.Math.Path.{ap}
use mathlib.Core.List.{List, [], ◌∷◌, ◌++◌}
use Rattle.std.proofs.Math.Dec.{leb}
use borrow.Author.Tests.{le-leb, eq-eqb}
use Rattle.model.specs.Answers.{Refusal}
use Rattle.model.specs.Netlist.{Node, Input, input_numbers}
use Rattle.model.specs.Record.{got, refused, Reader, refuse, go_on, ◌>>=◌, pure, tested, guard, byte, number, code, name, listed_kind, inputs_per_kind, has_name, has_value, name_if, value_if, numbers, node_of, room, node, nodes_from, nodes, version1, version_of, finished, parse_fields, parse_sized, parse}
use Rattle.model.specs.Record as Record
use Rattle.model.specs.Validate.{validated, read_record, answer_of, read}
use Rattle.laws.specs.Terms.{UpToKind}
use Rattle.laws.specs.Record.Kinds.{inputs-counted}
use Rattle.laws.specs.Record.Reader.{Both, bind_got, guard-got, got≢refused}

-- ---- two readers in a row

-- the first got a value: the second goes on
bind_by : {A B : Type 0} (p : Reader A) (f : A → Reader B) (s : List ℕ) (i : ℕ) (a : A) (j : ℕ) → p s i ≡ got a j → ◌>>=◌ p f s i ≡ f a s j
unfolding ◌>>=◌ go_on
bind_by p f s i a j e = rw e

-- the first is refused
bind_stop : {A B : Type 0} (p : Reader A) (f : A → Reader B) (s : List ℕ) (i : ℕ) (r : Refusal) → p s i ≡ refused r → ◌>>=◌ p f s i ≡ refused r
unfolding ◌>>=◌ go_on
bind_stop p f s i r e = rw e

-- ---- nodes

-- a byte that is read is the one at its place
byte-read : (s : List ℕ) (i b j : ℕ) → byte s i ≡ got b j → get_or s i 0 ≡ b
unfolding byte refuse
byte-read s i b j h = go (leb (i + 1) (length s)) h
  where
    go : (t : Bool) → cond t (got (get_or s i 0) (i + 1)) (refused (record { number = 3; side = 0; place = i })) ≡ got b j → get_or s i 0 ≡ b
    go true g = cc
    go false g = absurd (got≢refused g)

-- a node that is read has a listed kind, and as many inputs as its kind byte divided by 16
pub node-counted : (ns : List Node) (n : Node) (s : List ℕ) (i j : ℕ) → node listed_kind ns s i ≡ got n j → (listed_kind (get_or s i 0) ≡ true) × (length (input_numbers n) ≡ get_or s i 0 / 16)
unfolding node code pure
node-counted ns n s i j h =
    let a = bind_got (guard 6 (room ns) (code listed_kind)) _ s i n j h in
    let k : ℕ = a.value in
    let g = guard-got 6 (room ns) (code listed_kind) s i k a.at a.first in
    let t = guard-got 4 listed_kind byte s i k a.at g.field in
    let b = bind_got (name_if (has_name k)) _ s a.at n j a.second in
    let c = bind_got (value_if (has_value k)) _ s b.at n j b.second in
    let d = bind_got (numbers (inputs_per_kind k)) _ s c.at n j c.second in
    let e : node_of k b.value c.value d.value ≡ n = cc in
    let f : get_or s i 0 ≡ k = byte-read s i k a.at t.field in
    let q = ap (λ (x : Node). length (input_numbers x)) (sym e) ∙ inputs-counted k b.value c.value d.value t.passes in
    (ap listed_kind f ∙ t.passes, q ∙ ap (λ (x : ℕ). x / 16) (sym f))

-- a node whose kind byte is not listed
pub node-unlisted : (listed : ℕ → Bool) (ns : List Node) (s : List ℕ) (i : ℕ) → i < length s → listed (get_or s i 0) ≡ false → node listed ns s i ≡ refuse 4 i
unfolding node ◌>>=◌ go_on guard tested code byte refuse
node-unlisted listed ns s i l h = let e : i + 1 ≤ length s = omega arith in rw (le-leb (i + 1) (length s) e, h)

-- nodes that are read, then k more
nodes_then : (listed : ℕ → Bool) (m k : ℕ) (ns ms : List Node) (s : List ℕ) (i j : ℕ) → nodes_from listed m ns s i ≡ got ms j → nodes_from listed (m + k) ns s i ≡ nodes_from listed k ms s j
unfolding nodes_from pure
nodes_then listed zero k ns ms s i j h = let e : ns ≡ ms = cc in let f : i ≡ j = cc in let g : 0 + k ≡ k = omega arith in rw (g, e, f)
nodes_then listed (suc m) k ns ms s i j h =
    let b : Both (node listed ns) _ s i ms j = bind_got (node listed ns) _ s i ms j h in
    let g : suc m + k ≡ suc (m + k) = omega arith in
    ap (λ (n : ℕ). nodes_from listed n ns s i) g
    ∙ bind_by (node listed ns) (λ n. nodes_from listed (m + k) (ns ++ (n ∷ []))) s i b.value b.at b.first
    ∙ nodes_then listed m k (ns ++ (b.value ∷ [])) ms s b.at j b.second

-- where the first of the nodes that are left is of no listed kind, the nodes are refused at it
nodes-unlisted : (listed : ℕ → Bool) (m k : ℕ) (ns ms : List Node) (s : List ℕ) (i j : ℕ) → nodes_from listed m ns s i ≡ got ms j → j < length s → listed (get_or s j 0) ≡ false
    → nodes_from listed (m + suc k) ns s i ≡ refuse 4 j
unfolding nodes_from refuse
nodes-unlisted listed m k ns ms s i j h l u = nodes_then listed m (suc k) ns ms s i j h ∙ bind_stop (node listed ms) _ s j _ (node-unlisted listed ms s j l u)

-- ---- the call read

module _ (s : List ℕ) (m place : ℕ) (u : UpToKind s m place) (h : listed_kind (get_or s place 0) ≡ false) where
  -- the count is read
  count-read : guard 6 (λ n. leb n 1024) number s u.count_at ≡ got u.count (u.count_at + 2)
  unfolding guard tested
  count-read = rw (u.counted, le-leb u.count 1024 u.few)

  -- the nodes are refused
  nodes-refused : nodes listed_kind s u.count_at ≡ refuse 4 place
  unfolding nodes
  nodes-refused =
      let e : m + suc (u.count - suc m) ≡ u.count = omega (arith, u.declared) in
      bind_by (guard 6 (λ n. leb n 1024) number) (λ n. nodes_from listed_kind n []) s u.count_at u.count (u.count_at + 2) count-read
      ∙ ap (λ (n : ℕ). nodes_from listed_kind n [] s (u.count_at + 2)) (sym e)
      ∙ nodes-unlisted listed_kind m (u.count - suc m) [] u.before s (u.count_at + 2) place u.nodes_before u.within h

  -- and with them the record
  record_refused : version1 s 5 ≡ refuse 4 place
  unfolding version1 refuse
  record_refused = bind_by name _ s 5 u.design_name u.count_at u.named ∙ bind_stop (nodes listed_kind) _ s u.count_at _ nodes-refused

  -- the call read answers 4 at a kind byte that is not listed, whatever stands behind it
  pub unlisted-refused : read s ≡ record { number = 4; side = 0; place = place }
  unfolding read read_record validated answer_of parse parse_sized parse_fields version_of finished refuse
  unlisted-refused = rw (u.sized, eq-eqb (get_or s 0 0) 1 u.version, record_refused)

-- a record that is in order up to the kind byte of node 1: Input a, then 12 hex, and nothing behind it
unlisted_behind_a : UpToKind (1 ∷ 0 ∷ 0 ∷ 0 ∷ 13 ∷ 1 ∷ 103 ∷ 0 ∷ 2 ∷ 0 ∷ 1 ∷ 97 ∷ 0x12 ∷ []) 1 12
unfolding Record.all
unlisted_behind_a =
    record {
      sized = refl;
      version = refl;
      design_name = 103 ∷ [];
      count_at = 7;
      named = refl;
      count = 2;
      counted = refl;
      few = omega arith;
      declared = omega arith;
      before = Input (97 ∷ []) ∷ [];
      nodes_before = refl;
      within = omega arith;
    }
