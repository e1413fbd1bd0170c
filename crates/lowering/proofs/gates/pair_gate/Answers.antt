-- `pair_gate` meets its contract. Assumes nothing.
use Rattle.std.proofs.Common.{arith, rules}
use Rattle.lowering.specs.Gate.{made_more, made_as, pair-and, pair_or, pair-xor, pair-mux, pair-none, made-literal}
use Rattle.lowering.proofs.gates.pair_gate.Goals as goal

pub returns-in-32 : goal.returns-in-32
returns-in-32 c =
    made_as (pair-and _ _ _ _ _ _ c.in-32.is) (made_more 3 (omega arith) (rw (c.net_literal-lhs.ensures, c.net_literal-rhs.ensures) at c.and.ensures))

pub returns-in-33 : goal.returns-in-33
returns-in-33 c =
    made_as (pair_or _ _ _ _ _ _ c.in-33.is) (made_more 3 (omega arith) (rw (c.net_literal-lhs.ensures, c.net_literal-rhs.ensures) at c.or.ensures))

pub returns-in-34 : goal.returns-in-34
returns-in-34 c =
    made_as (pair-xor _ _ _ _ _ _ c.in-34.is) (rw (c.net_literal-lhs.ensures, c.net_literal-rhs.ensures) at c.xor.ensures)

pub returns-in-48 : goal.returns-in-48
returns-in-48 c =
    made_as (pair-mux _ _ _ _ _ _ c.in-48.is)
    (rw (c.net_literal-lhs.ensures, c.net_literal-rhs.ensures, c.net_literal-other.ensures) at c.mux.ensures)

pub returns-in_default : goal.returns-in_default
returns-in_default c =
    made-literal _ _ _ _ c.requires.0 (omega (arith, c.requires.0.ready.positive)) (pair-none _ _ _ _ _ _ (search rules) (search rules) (search rules) (search rules))
