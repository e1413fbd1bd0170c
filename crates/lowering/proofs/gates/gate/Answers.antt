-- `gate` meets its contract. Assumes nothing.
use Rattle.std.proofs.Common.{⊎_elim, arith, rules}
use Rattle.aig.specs.Shortcut.{negate-below}
use Rattle.lowering.specs.Gate.{made_more, made_as, made-literal, constant-below, gate-input, gate-constant, gate-register, gate-not, gate-output, gate-pair}
use Rattle.lowering.proofs.gates.gate.Goals as goal

pub returns-in-0 : goal.returns-in-0
returns-in-0 c =
    made_as (⊎_elim (λ k. gate-input _ _ _ _ _ _ _ k) (λ k. gate-register _ _ _ _ _ _ _ k) c.in-0.is) (made_more 3 (omega arith) c.variable.ensures)

pub returns-in-1 : goal.returns-in-1
returns-in-1 c =
    rw c.constant_literal.ensures (made-literal _ _ _ _ c.requires.0 (constant-below _ _ c.requires.0.ready.positive) (gate-constant _ _ _ _ _ _ _ c.in-1.is))

pub returns-in-16 : goal.returns-in-16
returns-in-16 c =
    rw (c.negate.ensures, c.net_literal.ensures) (made-literal _ _ _ _ c.requires.0 (negate-below _ _ (c.requires.0.nets _)) (gate-not _ _ _ _ _ _ _ c.in-16.is))

pub returns-in-17 : goal.returns-in-17
returns-in-17 c =
    rw c.net_literal-in-17.ensures (made-literal _ _ _ _ c.requires.0 (c.requires.0.nets _) (gate-output _ _ _ _ _ _ _ c.in-17.is))

pub returns-in_default : goal.returns-in_default
returns-in_default c =
    made_as (gate-pair _ _ _ _ _ _ _ (search rules) (search rules) (search rules) (search rules) (search rules)) c.pair_gate.ensures
