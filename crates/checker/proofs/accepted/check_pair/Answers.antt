-- `check_pair` answers the first refusal, or proves the pair from its initial states. Assumes nothing.
use Rattle.std.proofs.Common.{sym, ◌∙◌}
use Rattle.calls.specs.Causes.{fault_of}
use Rattle.model.specs.Check.{lent_of}
use Rattle.checker.specs.ResultLaws.{pair-refused, pair-accepted, from_initial}
use Rattle.calls.specs.Options as Options
use Rattle.checker.proofs.accepted.check_pair.Goals as goal

pub initial_row-gold_row-requires : goal.initial_row-gold_row-requires
initial_row-gold_row-requires c = c.args.pair.now.gold.sided.valid.within.sized

pub initial_row-gate_row-requires : goal.initial_row-gate_row-requires
initial_row-gate_row-requires c = c.args.pair.now.gate.sided.valid.within.sized

pub prove-requires : goal.prove-requires
unfolding lent_of Options.lent_of fault_of
prove-requires c =
    sym c.in-Ok.ensures

pub returns-in-Err : goal.returns-in-Err
unfolding lent_of Options.lent_of fault_of
returns-in-Err c =
    pair-refused _ _ _ _ _ _ _ _ _ (sym c.in-Err.ensures) c.from.ensures

pub returns-in-Ok : goal.returns-in-Ok
unfolding lent_of Options.lent_of fault_of
returns-in-Ok c =
    let pair = c.args.pair.now in
    pair-accepted _ _ _ _ _ _ _ _ (sym c.in-Ok.ensures)
    (c.prove.ensures ∙ from_initial _ _ _ _ _ _ _ _ (c.initial_row-gold_row.ensures pair.gold.bytes.now) (c.initial_row-gate_row.ensures pair.gate.bytes.now))
