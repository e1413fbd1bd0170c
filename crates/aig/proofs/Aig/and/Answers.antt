-- `aig::Aig::and` meets its contract. Assumes nothing.
use Rattle.std.proofs.Common.{◌≡◌, sym, arith}
use Rattle.model.specs.Aig.{and_shortcut}
use mathlib.Core.Option.{none}
use Rattle.aig.specs.Operations.{made-is, made-known, and_lower, and_upper}
use Rattle.aig.specs.Shortcut.{shortcut_of, and-ascending, and_descending}
use Rattle.aig.proofs.Aig.and.Goals as goal
use Rattle.aig.proofs.Aig.and.Goals.{In-None}

-- no shortcut
unknown : (c : In-None) → let a = c.args in none ≡ and_shortcut a.lhs.0 a.rhs.0
unfolding shortcut_of
unknown c = c.in-None.ensures

pub returns-in-Some : goal.returns-in-Some
unfolding shortcut_of
returns-in-Some c =
    made-known c.args.self.count _ c.requires.0 _ _ c.requires.2 c.requires.3 _ c.in-Some.ensures

pub pair-requires : goal.pair-requires
pair-requires c =
    (c.requires.0, c.requires.1, and-ascending _ _ (sym (unknown (goal.at.pair-requires c).In-None)) c.if-lhs-rhs.true, c.requires.2, c.requires.3)

pub pair-requires-else-lhs-rhs : goal.pair-requires-else-lhs-rhs
pair-requires-else-lhs-rhs c =
    (c.requires.0, c.requires.1, and_descending _ _ (sym (unknown (goal.at.pair-requires-else-lhs-rhs c).In-None)) (omega (arith, c.if-lhs-rhs.false)), c.requires.3, c.requires.2)

pub returns-then-lhs-rhs : goal.returns-then-lhs-rhs
returns-then-lhs-rhs c =
    made-is c.pair.ensures (and_lower _ _ _ (unknown (goal.at.returns-then-lhs-rhs c).In-None) c.if-lhs-rhs.true)

pub returns-else-lhs-rhs : goal.returns-else-lhs-rhs
returns-else-lhs-rhs c =
    made-is c.pair-else-lhs-rhs.ensures (and_upper _ _ _ (unknown (goal.at.returns-else-lhs-rhs c).In-None) (omega (arith, c.if-lhs-rhs.false)))
