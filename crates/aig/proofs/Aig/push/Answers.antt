-- `aig::Aig::push` meets its contract. Assumes nothing.
use Rattle.std.proofs.Common.{◌≡◌, refl, arith}
use Rattle.aig.specs.Made.{pushed_and, pushed-is}
use Rattle.aig.proofs.MadeLaws.{made-and}
use Rattle.aig.specs.Operations.{fresh}
use Rattle.aig.proofs.Aig.push.Goals as goal

pub returns : goal.returns
returns c =
    let n = c.args.self.count in
    let q : c.stash-4.new.words ≡ pushed_and c.args.words.now n c.args.lhs.0 c.args.rhs.0 =
    pushed-is _ _ _ _ _ _ _ _ _ _ _ _ c.open_chains.ensures.0 refl c.stash.ensures.0 c.stash-2.ensures.0 refl c.fetch-head.ensures c.stash-3.ensures.0 c.stash-4.ensures.0 in
    rw (q, c.of.ensures) (made-and n _ c.requires.0 (omega arith) _ _ c.requires.2 c.requires.3 c.requires.4 (fresh n _ c.requires.0 _ _ c.requires.5))
