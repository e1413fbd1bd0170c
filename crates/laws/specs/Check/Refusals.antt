-- The numbers of the refusals: of a record 1 to 15 and 30; with these of a check 16 to 24 and 36, of a replay 18 to 22 and 25, of a begin 18 to 22 and 24, of a step those of a replay and 24. Assumes nothing.
use Rattle.std.specs.Prelude.{ℕ, zero, suc, ◌+◌, ◌≤◌, ◌≡◌, refl, ◌≢◌, Bool, true, false, cond, List, [], ◌∷◌, ◌++◌, length, get_or, leb, eqb}
use Rattle.std.proofs.Common.{arith, ap, subst}
use Rattle.std.proofs.Math.Option.{Option, none, some}
use Rattle.model.specs.Answers.{Refusal}
use Rattle.model.specs.Options.{Options}
use Rattle.model.specs.Names.{Name, Place}
use Rattle.model.specs.Netlist.{Node, Register, Design}
use Rattle.model.specs.Record.{Step, got, refused, Reader, refuse, pure, go_on, ◌>>=◌, tested, guard, bytes, byte, number, code, code_below, name_bytes, name, name_if, value_if, numbers, node, nodes_from, nodes, enable_for, reset_for, register, registers_from, registers, end, version1, version_of, Read, parsed, refused_record, length_fits, finished, parse_fields, parse_sized, parse}
use Rattle.model.specs.Validate.{◌otherwise◌, refuse_if, node_fault, nodes_fault, register_fault, registers_fault, connection_fault, reset_fault, clock_fault, clock_read_fault, validate, judged, validated, read_record, add_name, port_name}
use Rattle.model.specs.Pair.{Lent, interface_fault, resets_fault, initial_fault, check_fault, replay_fault, ReadPair, both, refused_pair, on_gate, with_gate, with_gold, read_pair, check_refusal_of, check_refusal}
use Rattle.model.specs.Stepping.{bits_fault, begin_fault, step_fault}
use Rattle.laws.specs.Terms.{Within, fault_to15, OfOne, of_fields, of_clock, OfRecord, OfCheck, of_either, of_list, of_limit, OfReplay, of_record, of_pair, of_claim, replay_refusal_of, replay_refusal}
use Rattle.laws.specs.StepTerms.{begin_refusal_of, begin_refusal, step_refusal_of, step_refusal, OfBegin, of_reading, of_comparing, of_length, OfStep, as_replay, of_bits_lem}

-- 1 to 15, on side 0
pub record To15 (r : Refusal) : Type 0 where
  pub low : 1 ≤ r.number
  pub high : r.number ≤ 15
  pub side : r.side ≡ 0

-- a step of a reader that refuses with 1 to 15, if it refuses
abbrev RealStep : {A : Type 0} → Step A → Type 0
RealStep (got a i) = Unit {0}
RealStep (refused r) = To15 r

-- the same of a reader, wherever it begins
abbrev pub RealReader : {A : Type 0} → Reader A → Type 0
RealReader p = (s : List ℕ) (i : ℕ) → RealStep (p s i)

-- the same of a record that is read
abbrev pub RealRead : Read → Type 0
RealRead (parsed d) = Unit {0}
RealRead (refused_record r) = To15 r

-- ---- readers

refuse_real : (A : Type 0) (n place : ℕ) → 1 ≤ n → n ≤ 15 → RealStep (refuse {A = A} n place)
unfolding refuse
refuse_real A n place l h = record { low = l; high = h; side = refl }

cond_real : {A : Type 0} (b : Bool) (x y : Step A) → RealStep x → RealStep y → RealStep (cond b x y)
cond_real true x y h k = h
cond_real false x y h k = k

pure_real : {A : Type 0} (a : A) → RealReader (pure a)
unfolding pure
pure_real a s i = tt

go_real : {A B : Type 0} (f : A → Reader B) (s : List ℕ) (r : Step A) → RealStep r → ((a : A) → RealReader (f a)) → RealStep (go_on f s r)
unfolding go_on
go_real f s (got a i) h k = k a s i
go_real f s (refused r) h k = h

bind_real : {A B : Type 0} (p : Reader A) (f : A → Reader B) → RealReader p → ((a : A) → RealReader (f a)) → RealReader (◌>>=◌ p f)
unfolding ◌>>=◌
bind_real p f h k s i = go_real f s (p s i) (h s i) k

tested_real : {A : Type 0} (n : ℕ) (ok : A → Bool) (i : ℕ) (r : Step A) → 1 ≤ n → n ≤ 15 → RealStep r → RealStep (tested n ok i r)
unfolding tested
tested_real {A} n ok i (got a j) l h k = cond_real (ok a) (got a j) (refuse n i) tt (refuse_real A n i l h)
tested_real {A} n ok i (refused r) l h k = k

guard_real : {A : Type 0} (n : ℕ) (ok : A → Bool) (p : Reader A) → 1 ≤ n → n ≤ 15 → RealReader p → RealReader (guard n ok p)
unfolding guard
guard_real n ok p l h k s i = tested_real n ok i (p s i) l h (k s i)

bytes_real : (k : ℕ) → RealReader (bytes k)
unfolding bytes
bytes_real k s i = cond_real (leb (i + k) (length s)) _ (refuse 3 i) tt (refuse_real (List ℕ) 3 i (omega arith) (omega arith))

byte_real : RealReader byte
unfolding byte
byte_real s i = cond_real (leb (i + 1) (length s)) _ (refuse 3 i) tt (refuse_real ℕ 3 i (omega arith) (omega arith))

number_real : RealReader number
unfolding number
number_real s i = cond_real (leb (i + 2) (length s)) _ (refuse 3 i) tt (refuse_real ℕ 3 i (omega arith) (omega arith))

end_real : RealReader end
unfolding end
end_real s i = cond_real (leb (length s) i) _ (refuse 3 i) tt (refuse_real (Unit {0}) 3 i (omega arith) (omega arith))

code_real : (listed : ℕ → Bool) → RealReader (code listed)
unfolding code
code_real listed = guard_real 4 listed byte (omega arith) (omega arith) byte_real

below_real : (n : ℕ) → RealReader (code_below n)
unfolding code_below
below_real n = code_real _

name_real : RealReader name
unfolding name
name_real = bind_real _ _ (guard_real 5 _ byte (omega arith) (omega arith) byte_real) (λ n. guard_real 5 name_bytes (bytes n) (omega arith) (omega arith) (bytes_real n))

name_if_real : (b : Bool) → RealReader (name_if b)
unfolding name_if
name_if_real true = name_real
name_if_real false = pure_real []

value_if_real : (b : Bool) → RealReader (value_if b)
unfolding value_if
value_if_real true = below_real 2
value_if_real false = pure_real 0

numbers_real : (k : ℕ) → RealReader (numbers k)
unfolding numbers
numbers_real zero = pure_real []
numbers_real (suc k) = bind_real _ _ number_real (λ n. bind_real _ _ (numbers_real k) (λ ns. pure_real (n ∷ ns)))

node_real : (listed : ℕ → Bool) (ns : List Node) → RealReader (node listed ns)
unfolding node
node_real listed ns =
    bind_real _ _ (guard_real 6 _ (code listed) (omega arith) (omega arith) (code_real listed))
    (λ k. bind_real _ _ (name_if_real _) (λ n. bind_real _ _ (value_if_real _) (λ v. bind_real _ _ (numbers_real _) (λ ins. pure_real _))))

nodes-from_real : (listed : ℕ → Bool) (k : ℕ) (ns : List Node) → RealReader (nodes_from listed k ns)
unfolding nodes_from
nodes-from_real listed zero ns = pure_real ns
nodes-from_real listed (suc k) ns = bind_real _ _ (node_real listed ns) (λ n. nodes-from_real listed k (ns ++ (n ∷ [])))

nodes_real : (listed : ℕ → Bool) → RealReader (nodes listed)
unfolding nodes
nodes_real listed = bind_real _ _ (guard_real 6 _ number (omega arith) (omega arith) number_real) (λ n. nodes-from_real listed n [])

enable_real : (c : ℕ) → RealReader (enable_for c)
unfolding enable_for
enable_real zero = pure_real none
enable_real (suc c) = bind_real _ _ number_real (λ signal. pure_real _)

reset_real : (c : ℕ) → RealReader (reset_for c)
unfolding reset_for
reset_real zero = pure_real none
reset_real (suc c) = bind_real _ _ number_real (λ signal. bind_real _ _ (below_real 2) (λ kind. bind_real _ _ (below_real 2) (λ value. pure_real _)))

register_real : RealReader register
unfolding register
register_real =
    bind_real _ _ name_real (λ n. bind_real _ _ number_real (λ output. bind_real _ _ number_real (λ input. bind_real _ _ number_real (λ clock.
    bind_real _ _ (below_real 2) (λ edge. bind_real _ _ (below_real 3) (λ e. bind_real _ _ (enable_real e) (λ enable.
    bind_real _ _ (below_real 3) (λ r. bind_real _ _ (reset_real r) (λ reset. pure_real _)))))))))

registers-from_real : (one : Reader Register) → RealReader one → (k : ℕ) (rs : List Register) → RealReader (registers_from one k rs)
unfolding registers_from
registers-from_real one h zero rs = pure_real rs
registers-from_real one h (suc k) rs = bind_real _ _ h (λ r. registers-from_real one h k (rs ++ (r ∷ [])))

registers_real : (one : Reader Register) → RealReader one → RealReader (registers one)
unfolding registers
registers_real one h = bind_real _ _ (guard_real 6 _ number (omega arith) (omega arith) number_real) (λ n. registers-from_real one h n [])

version_real : RealReader version1
unfolding version1
version_real =
    bind_real _ _ name_real (λ n. bind_real _ _ (nodes_real _) (λ ns. bind_real _ _ (registers_real register register_real) (λ rs. bind_real _ _ end_real (λ e. pure_real _))))

finished_real : (r : Step Design) → RealStep r → RealRead (finished r)
unfolding finished
finished_real (got d i) h = tt
finished_real (refused r) h = h

fields_real : (s : List ℕ) (v : ℕ) (b : Bool) → RealRead (parse_fields s (cond b (some version1) none))
unfolding parse_fields
fields_real s v true = finished_real (version1 s 5) (version_real s 5)
fields_real s v false = finished_real (refuse 2 0) (refuse_real Design 2 0 (omega arith) (omega arith))

sized_real : (s : List ℕ) (b : Bool) → RealRead (parse_sized s b)
unfolding parse_sized version_of
sized_real s false = finished_real (refuse 1 0) (refuse_real Design 1 0 (omega arith) (omega arith))
sized_real s true = fields_real s (get_or s 0 0) (eqb (get_or s 0 0) 1)

-- a record that is not parsed is refused with 1 to 15
pub parse_real : (s : List ℕ) → RealRead (parse s)
unfolding parse
parse_real s = sized_real s (length_fits s)

-- ---- the checks of a design

-- a refusal, where there is one, has this property
abbrev pub Every : (Refusal → Type 0) → Option Refusal → Type 0
Every P none = Unit {0}
Every P (some r) = P r

if_every : (P : Refusal → Type 0) (n side place : ℕ) (b : Bool) → P (record { number = n; side = side; place = place }) → Every P (refuse_if n side place b)
unfolding refuse_if
if_every P n side place true h = h
if_every P n side place false h = tt

or_every : (P : Refusal → Type 0) (x y : Option Refusal) → Every P x → Every P y → Every P (x otherwise y)
unfolding ◌otherwise◌
or_every P none y h k = k
or_every P (some r) y h k = h

every_so : (P Q : Refusal → Type 0) → ((r : Refusal) → P r → Q r) → (x : Option Refusal) → Every P x → Every Q x
every_so P Q f none h = tt
every_so P Q f (some r) h = f r h

-- one test, of a number in a range
if_real : (n place : ℕ) (b : Bool) → 1 ≤ n → n ≤ 15 → Every To15 (refuse_if n 0 place b)
if_real n place b l h = if_every To15 n 0 place b (record { low = l; high = h; side = refl })

or_real : (x y : Option Refusal) → Every To15 x → Every To15 y → Every To15 (x otherwise y)
or_real x y h k = or_every To15 x y h k

if_within : (first last n side place : ℕ) (b : Bool) → first ≤ n → n ≤ last → Every (Within first last) (refuse_if n side place b)
if_within first last n side place b l h = if_every (Within first last) n side place b (record { low = l; high = h })

or-within : (first last : ℕ) (x y : Option Refusal) → Every (Within first last) x → Every (Within first last) y → Every (Within first last) (x otherwise y)
or-within first last x y h k = or_every (Within first last) x y h k

real_nodes : (i : ℕ) (names : List Name) (ns : List Node) → Every To15 (nodes_fault i names ns)
unfolding nodes_fault node_fault
real_nodes i names [] = tt
real_nodes i names (n ∷ ns) = or_real _ _ (or_real _ _ (if_real 7 i _ (omega arith) (omega arith)) (if_real 8 i _ (omega arith) (omega arith))) (real_nodes (suc i) (add_name (port_name n) names) ns)

real_registers : (nodes : List Node) (i : ℕ) (names : List Name) (taken : List ℕ) (rs : List Register) → Every To15 (registers_fault nodes i names taken rs)
unfolding registers_fault register_fault
real_registers nodes i names taken [] = tt
real_registers nodes i names taken (r ∷ rs) =
    or_real _ _
    (or_real _ _ (if_real 9 i _ (omega arith) (omega arith)) (or_real _ _ (if_real 10 i _ (omega arith) (omega arith))
    (or_real _ _ (if_real 11 i _ (omega arith) (omega arith)) (if_real 12 i _ (omega arith) (omega arith)))))
    (real_registers nodes _ _ _ rs)

real_connection : (rs : List Register) (i : ℕ) (ns : List Node) → Every To15 (connection_fault rs i ns)
unfolding connection_fault
real_connection rs i [] = tt
real_connection rs i (n ∷ ns) = or_real _ _ (if_real 13 i _ (omega arith) (omega arith)) (real_connection rs (suc i) ns)

real_reset : (rs : List Register) (i : ℕ) (ns : List Node) → Every To15 (reset_fault rs i ns)
unfolding reset_fault
real_reset rs i [] = tt
real_reset rs i (n ∷ ns) = or_real _ _ (if_real 14 i _ (omega arith) (omega arith)) (real_reset rs (suc i) ns)

real_clock : (nodes : List Node) (i : ℕ) (rs : List Register) → Every To15 (clock_fault nodes i rs)
unfolding clock_fault
real_clock nodes i [] = tt
real_clock nodes i (r ∷ rs) = or_real _ _ (if_real 15 i _ (omega arith) (omega arith)) (real_clock nodes (suc i) rs)

-- the checks before 30 refuse with 7 to 15
pub early_real : (d : Design) → Every To15 (fault_to15 d)
unfolding fault_to15
early_real d = or_real _ _ (real_nodes 0 [] _) (or_real _ _ (real_registers _ 0 [] [] _) (or_real _ _ (real_connection _ 0 _) (or_real _ _ (real_reset _ 0 _) (real_clock _ 0 _))))

of_early : (r : Refusal) → To15 r → OfRecord r
of_early r h = record { own = of_fields (record { low = h.low; high = h.high }); side = h.side }

real_clock-read : (d : Design) (i : ℕ) (ns : List Node) → Every OfRecord (clock_read_fault d i ns)
unfolding clock_read_fault
real_clock-read d i [] = tt
real_clock-read d i (n ∷ ns) = or_every OfRecord _ _ (if_every OfRecord 30 0 _ _ (record { own = of_clock refl; side = refl })) (real_clock-read d (suc i) ns)

-- the checks of a design are those before 30, and then 30
pub validate_splits : (d : Design) → validate d ≡ fault_to15 d otherwise clock_read_fault d 0 d.nodes
unfolding validate fault_to15 ◌otherwise◌
validate_splits d = go (nodes_fault 0 [] d.nodes) (registers_fault d.nodes 0 [] [] d.registers) (connection_fault d.registers 0 d.nodes) (reset_fault d.registers 0 d.nodes) (clock_fault d.nodes 0 d.registers)
  where
    go : (a b c e f : Option Refusal) → a otherwise b otherwise c otherwise e otherwise f otherwise clock_read_fault d 0 d.nodes ≡ (a otherwise b otherwise c otherwise e otherwise f) otherwise clock_read_fault d 0 d.nodes
    go (some r) b c e f = refl
    go none (some r) c e f = refl
    go none none (some r) e f = refl
    go none none none (some r) f = refl
    go none none none none f = refl

real_validate : (d : Design) → Every OfRecord (validate d)
real_validate d = rw (validate_splits d) (or_every OfRecord _ _ (every_so To15 OfRecord of_early (fault_to15 d) (early_real d)) (real_clock-read d 0 d.nodes))

-- a record that is read and checked, refused with a number of a record, if it is
abbrev RealChecked : Read → Type 0
RealChecked (parsed d) = Unit {0}
RealChecked (refused_record r) = OfRecord r

judged_real : (d : Design) (o : Option Refusal) → Every OfRecord o → RealChecked (judged d o)
unfolding judged
judged_real d none h = tt
judged_real d (some r) h = h

validated_real : (r : Read) → RealRead r → RealChecked (validated r)
unfolding validated
validated_real (parsed d) h = judged_real d (validate d) (real_validate d)
validated_real (refused_record r) h = of_early r h

read_real : (s : List ℕ) → RealChecked (read_record s)
unfolding read_record
read_real s = validated_real (parse s) (parse_real s)

-- every refusal of a record has a number from 1 to 15, or 30, on side 0
pub record_within : (s : List ℕ) (r : Refusal) → read_record s ≡ refused_record r → OfRecord r
record_within s r e = subst RealChecked e (read_real s)

-- ---- the checks of a pair

real_resets : (side : ℕ) (rs : List Register) (ps : List Place) → Every (Within 18 22) (resets_fault side rs ps)
unfolding resets_fault
real_resets side rs [] = tt
real_resets side rs (p ∷ ps) = or-within 18 22 _ _ (if_within 18 22 22 side p.number _ (omega arith) (omega arith)) (real_resets side rs ps)

real_initial : (gold gate : Design) → Every (Within 18 22) (initial_fault gold gate)
unfolding initial_fault
real_initial gold gate = or-within 18 22 _ _ (real_resets 0 _ _) (real_resets 1 _ _)

real_interface : (gold gate : Design) → Every (Within 18 22) (interface_fault gold gate)
unfolding interface_fault
real_interface gold gate =
    or-within 18 22 _ _ (if_within 18 22 18 0 0 _ (omega arith) (omega arith)) (or-within 18 22 _ _ (if_within 18 22 19 0 0 _ (omega arith) (omega arith))
    (or-within 18 22 _ _ (if_within 18 22 20 0 0 _ (omega arith) (omega arith)) (or-within 18 22 _ _ (if_within 18 22 20 1 0 _ (omega arith) (omega arith))
    (if_within 18 22 21 0 0 _ (omega arith) (omega arith)))))

wider : (r : Refusal) → Within 18 22 r → Within 16 24 r
wider r h = record { low = omega (arith, h.low); high = omega (arith, h.high) }

if_listed : (n : ℕ) (b : Bool) → 16 ≤ n → n ≤ 24 → Every OfCheck (refuse_if n 0 0 b)
if_listed n b low high = if_every OfCheck n 0 0 b (of_list (record { low = low; high = high }))

real_fault : (gold gate : Design) (o : Options) (lent : Lent) → Every OfCheck (check_fault gold gate o lent)
unfolding check_fault
real_fault gold gate o lent =
    or_every OfCheck _ _ (if_listed 16 _ (omega arith) (omega arith)) (or_every OfCheck _ _ (if_listed 17 _ (omega arith) (omega arith))
    (or_every OfCheck _ _ (if_every OfCheck 36 0 0 _ (of_limit refl))
    (or_every OfCheck _ _ (every_so (Within 18 22) OfCheck (λ r h. of_list (wider r h)) (interface_fault gold gate) (real_interface gold gate))
    (or_every OfCheck _ _ (every_so (Within 18 22) OfCheck (λ r h. of_list (wider r h)) (initial_fault gold gate) (real_initial gold gate))
    (or_every OfCheck _ _ (if_listed 23 _ (omega arith) (omega arith)) (if_listed 24 _ (omega arith) (omega arith)))))))

real_replay : (gold gate : Design) (cycle : ℕ) (claim : List ℕ) → Every OfReplay (replay_fault gold gate cycle claim)
unfolding replay_fault
real_replay gold gate cycle claim =
    or_every OfReplay _ _ (every_so (Within 18 22) OfReplay (λ r h. of_pair h) (interface_fault gold gate) (real_interface gold gate))
    (or_every OfReplay _ _ (every_so (Within 18 22) OfReplay (λ r h. of_pair h) (initial_fault gold gate) (real_initial gold gate)) (if_every OfReplay 25 0 0 _ (of_claim refl)))

-- two records that are refused with a number of a record, if they are
abbrev RealPair : ReadPair → Type 0
RealPair (both gold gate) = Unit {0}
RealPair (refused_pair r) = OfOne r

gate_real : (gold : Design) (r : Read) → RealChecked r → RealPair (with_gate gold r)
unfolding with_gate on_gate
gate_real gold (parsed gate) h = tt
gate_real gold (refused_record r) h = on-gate r h.own
  where
    on-gate : (r : Refusal) → OfOne r → OfOne (on_gate r)
    on-gate r (of_fields w) = of_fields (record { low = w.low; high = w.high })
    on-gate r (of_clock e) = of_clock e

gold_real : (r : Read) (b : List ℕ) → RealChecked r → RealPair (with_gold r b)
unfolding with_gold
gold_real (parsed gold) b h = gate_real gold (read_record b) (read_real b)
gold_real (refused_record r) b h = h.own

pair_real : (a b : List ℕ) → RealPair (read_pair a b)
unfolding read_pair
pair_real a b = gold_real (read_record a) b (read_real a)

of_real : (p : ReadPair) (o : Options) (lent : Lent) → RealPair p → Every OfCheck (check_refusal_of p o lent)
unfolding check_refusal_of
of_real (refused_pair r) o lent h = of_either h
of_real (both gold gate) o lent h = real_fault gold gate o lent

-- every refusal of a check has a number from 1 to 24, or 30, or is 36 with side and place 0
pub check-within : (a b : List ℕ) (o : Options) (lent : Lent) (r : Refusal) → check_refusal a b o lent ≡ some r → OfCheck r
unfolding check_refusal
check-within a b o lent r e = subst (Every OfCheck) e (of_real (read_pair a b) o lent (pair_real a b))

of_replay : (p : ReadPair) (cycle : ℕ) (claim : List ℕ) → RealPair p → Every OfReplay (replay_refusal_of p cycle claim)
unfolding replay_refusal_of
of_replay (refused_pair r) cycle claim h = of_record h
of_replay (both gold gate) cycle claim h = real_replay gold gate cycle claim

-- every refusal of a replay is one of its numbers
pub replay-within : (a b : List ℕ) (cycle : ℕ) (claim : List ℕ) (r : Refusal) → replay_refusal a b cycle claim ≡ some r → OfReplay r
unfolding replay_refusal
replay-within a b cycle claim r e = subst (Every OfReplay) e (of_replay (read_pair a b) cycle claim (pair_real a b))

-- ---- the stepping call

real_begin : (gold gate : Design) (bits : List ℕ) → Every OfBegin (begin_fault gold gate bits)
unfolding begin_fault
real_begin gold gate bits =
    or_every OfBegin _ _ (every_so (Within 18 22) OfBegin (λ r h. of_comparing h) (interface_fault gold gate) (real_interface gold gate))
    (or_every OfBegin _ _ (every_so (Within 18 22) OfBegin (λ r h. of_comparing h) (initial_fault gold gate) (real_initial gold gate)) (if_every OfBegin 24 0 0 _ (of_length refl)))

of_begin : (p : ReadPair) (bits : List ℕ) → RealPair p → Every OfBegin (begin_refusal_of p bits)
unfolding begin_refusal_of
of_begin (refused_pair r) bits h = of_reading h
of_begin (both gold gate) bits h = real_begin gold gate bits

-- every refusal of a begin is one of its numbers
pub begin-within : (a b bits : List ℕ) (r : Refusal) → begin_refusal a b bits ≡ some r → OfBegin r
unfolding begin_refusal
begin-within a b bits r e = subst (Every OfBegin) e (of_begin (read_pair a b) bits (pair_real a b))

real_step : (gold gate : Design) (cycle : ℕ) (claim bits : List ℕ) → Every OfStep (step_fault gold gate cycle claim bits)
unfolding step_fault bits_fault
real_step gold gate cycle claim bits =
    or_every OfStep _ _ (every_so OfReplay OfStep (λ r h. as_replay h) (replay_fault gold gate cycle claim) (real_replay gold gate cycle claim))
    (or_every OfStep _ _ (if_every OfStep 24 0 0 _ (of_bits_lem refl)) (if_every OfStep 25 0 0 _ (as_replay (of_claim refl))))

of_step : (p : ReadPair) (cycle : ℕ) (claim bits : List ℕ) → RealPair p → Every OfStep (step_refusal_of p cycle claim bits)
unfolding step_refusal_of
of_step (refused_pair r) cycle claim bits h = as_replay (of_record h)
of_step (both gold gate) cycle claim bits h = real_step gold gate cycle claim bits

-- every refusal of a step is one of its numbers
pub step-within : (a b : List ℕ) (cycle : ℕ) (claim bits : List ℕ) (r : Refusal) → step_refusal a b cycle claim bits ≡ some r → OfStep r
unfolding step_refusal
step-within a b cycle claim bits r e = subst (Every OfStep) e (of_step (read_pair a b) cycle claim bits (pair_real a b))

-- ---- no refusal has number 0

-- of a record
pub own-not-zero : (r : Refusal) → OfOne r → r.number ≢ 0
own-not-zero r (of_fields h) e = omega (arith, h.low, e)
own-not-zero r (of_clock h) e = omega (arith, h, e)

-- of a check
pub check-not-zero : (r : Refusal) → OfCheck r → r.number ≢ 0
check-not-zero r (of_either h) e = own-not-zero r h e
check-not-zero r (of_list h) e = omega (arith, h.low, e)
check-not-zero r (of_limit h) e = omega (arith, ap (λ (x : Refusal). x.number) h, e)

-- of a replay
pub replay-not-zero : (r : Refusal) → OfReplay r → r.number ≢ 0
replay-not-zero r (of_record h) e = own-not-zero r h e
replay-not-zero r (of_pair h) e = omega (arith, h.low, e)
replay-not-zero r (of_claim h) e = omega (arith, h, e)

-- of a begin
pub begin-not-zero : (r : Refusal) → OfBegin r → r.number ≢ 0
begin-not-zero r (of_reading h) e = own-not-zero r h e
begin-not-zero r (of_comparing h) e = omega (arith, h.low, e)
begin-not-zero r (of_length h) e = omega (arith, h, e)

-- of a step
pub step-not-zero : (r : Refusal) → OfStep r → r.number ≢ 0
step-not-zero r (as_replay h) e = replay-not-zero r h e
step-not-zero r (of_bits_lem h) e = omega (arith, h, e)
