-- Literals of the graph. Definitions only.
use Rattle.std.specs.Prelude.{ℕ, ◌+◌, ◌-◌, ◌/◌, ◌%◌, Bool, true, false, cond, eqb}

-- a literal is twice its node number, plus one if it is inverted
abbrev pub Literal : Type 0
Literal = ℕ

-- the false literal: node 0 is the constant false
abbrev pub FALSE : Literal
FALSE = 0

-- the true literal: node 0 inverted
abbrev pub TRUE : Literal
TRUE = 1

-- the number of the literal's node
unfoldable pub node : Literal → ℕ
node l = l / 2

-- whether the literal is inverted
unfoldable pub inverted : Literal → Bool
inverted l = eqb (l % 2) 1

-- the same node with the other sign: exclusive or with 1
unfoldable pub negate : Literal → Literal
negate l = cond (inverted l) (l - 1) (l + 1)

-- the literal of a known bit
unfoldable pub constant_literal : Bool → Literal
constant_literal true = TRUE
constant_literal false = FALSE

-- naming this in an `unfolding` line opens the definitions of this file
unfoldable pub all : Unit {0}
unfolding node inverted negate constant_literal
all = tt
