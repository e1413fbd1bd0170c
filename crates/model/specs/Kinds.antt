-- The kind bytes of a record's nodes by name, and the one table from a kind to what it means. Definitions only.
use Rattle.std.specs.Prelude.{ℕ, cond, eqb}

-- no input, a name: an Input
abbrev pub input_kind : ℕ
input_kind = 0x00

-- no input, a value byte: a Constant
abbrev pub constant_kind : ℕ
constant_kind = 0x01

-- no input: the output of a register
abbrev pub register_output_kind : ℕ
register_output_kind = 0x02

-- one input
abbrev pub not_kind : ℕ
not_kind = 0x10

-- one input, and a name: an Output
abbrev pub output_kind : ℕ
output_kind = 0x11

-- two inputs
abbrev pub and_kind : ℕ
and_kind = 0x20

abbrev pub or_kind : ℕ
or_kind = 0x21

abbrev pub xor_kind : ℕ
xor_kind = 0x22

-- three inputs: condition, then, else
abbrev pub mux_kind : ℕ
mux_kind = 0x30

-- the table: what a kind byte chooses of one meaning for each kind, and of one for a byte that is no kind
unfoldable pub by_kind : {A : Type 0} → ℕ → (input constant register_output not output and or xor mux other : A) → A
by_kind k input constant register_output not output and or xor mux other =
    cond (eqb k input_kind) input
    (cond (eqb k constant_kind) constant
    (cond (eqb k register_output_kind) register_output
    (cond (eqb k not_kind) not
    (cond (eqb k output_kind) output
    (cond (eqb k and_kind) and
    (cond (eqb k or_kind) or
    (cond (eqb k xor_kind) xor
    (cond (eqb k mux_kind) mux other))))))))
