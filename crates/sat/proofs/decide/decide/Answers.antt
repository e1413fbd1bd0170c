-- `decide` meets its contract: by the choice. Assumes nothing.
use Rattle.sat.specs.DecideLaws.{decides-nothing, decide-asked, decides}
use Rattle.sat.proofs.decide.decide.Goals as goal

pub decide-requires : goal.decide-requires
decide-requires c =
    decide-asked c.args.store _ _ _ _ _ c.choose_variable.ensures c.choose_variable.auto.words c.requires.0 _ c.in_ok-v.was c.requires.2

pub returns-in_err-v : goal.returns-in_err-v
returns-in_err-v c =
    rw c.from_residual.ensures (decides-nothing _ _ _ _ _ _ c.choose_variable.ensures c.choose_variable.auto.words c.requires.0 c.in_err-v.was)

pub returns : goal.returns
returns c =
    decides _ _ _ _ _ _ c.choose_variable.ensures c.choose_variable.auto.words c.requires.0 _ c.in_ok-v.was _ _ c.decide.ensures
