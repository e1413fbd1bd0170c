-- `aig::Aig::pair` meets its contract. Assumes nothing.
use Rattle.std.proofs.Common.{sym, ◌∙◌, arith}
use Rattle.aig.specs.Made.{made_none}
use Rattle.aig.specs.Operations.{made-is, found-is, absent-is}
use Rattle.aig.specs.Shortcut.{found-some, found-none}
use Rattle.aig.proofs.Aig.pair.Goals as goal

pub push-requires : goal.push-requires
push-requires c =
    (c.requires.0, c.requires.1, c.requires.2, c.requires.3, c.requires.4, sym found-none ∙ c.in-None.ensures.found)

pub returns-in-Some : goal.returns-in-Some
returns-in-Some c =
    let p = c.in-Some.ensures.below in
    rw c.of.ensures (made_none 1 c.args.self.count _ _ _ c.requires.0 (omega (arith, p.1)) (found-is _ _ _ _ p.0 (sym (found-some _ p.0) ∙ c.in-Some.ensures.found)))

pub returns-in-None : goal.returns-in-None
returns-in-None c =
    made-is c.push.ensures (absent-is _ _ _ (sym found-none ∙ c.in-None.ensures.found))
