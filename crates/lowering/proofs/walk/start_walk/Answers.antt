-- `start_walk` meets its contract. Assumes nothing.
use Rattle.std.proofs.Common.{◌≡◌, ap, ◌∙◌, List, ℕ}
use Rattle.words.specs.Layout.{TABLE, STATES}
use Rattle.words.specs.Region.{cleared}
use Rattle.lowering.specs.System.{wiped, started}
use Rattle.lowering.proofs.walk.start_walk.Goals as goal

pub returns : goal.returns
returns c =
    let e : c.clear-2.new.words ≡ wiped c.args.words.now = c.clear-2.ensures.0 ∙ ap (λ (x : List ℕ). cleared STATES x TABLE) c.clear.ensures.0 in
    (c.new.ensures.0, started _ _ c.requires c.new.ensures.1 c.new.ensures.2 (rw e at c.new.ensures.3))
