-- `import::import_node` meets its contract. Assumes nothing.
use Rattle.std.proofs.Common.{sym, ◌∙◌, ◌+◌, ◌<◌, arith, get_or}
use Rattle.words.specs.Layout.{SMALL}
use Rattle.words.specs.Region.{region}
use Rattle.import.specs.Importing.{remap_inside, stepped-variable, stepped-and}
use Rattle.import.proofs.import_node.Goals as goal
use Rattle.import.proofs.import_node.Goals.{Else-rhs-eq0}

-- the larger literal is one
conjunction : (c : Else-rhs-eq0) → let a = c.args in 0 < get_or (region (a.base + SMALL) a.words.now) a.i 0
conjunction c =
    omega (arith, c.fetch-rhs.ensures, c.if-rhs-eq0.false)

pub returns-then-rhs-eq0 : goal.returns-then-rhs-eq0
returns-then-rhs-eq0 c =
    stepped-variable _ _ _ _ c.requires (sym c.fetch-rhs.ensures ∙ c.if-rhs-eq0.true)

pub and-made-requires : goal.and-made-requires
and-made-requires c =
    let h = conjunction (goal.at.and-made-requires c).Else-rhs-eq0 in (
      c.requires.ready,
      c.requires.room h,
      rw (c.remap_literal-left.ensures, c.fetch-lhs.ensures) (remap_inside _ _ _ _ c.requires.inside (c.requires.order h).0),
      rw (c.remap_literal-right.ensures, c.fetch-rhs.ensures) (remap_inside _ _ _ _ c.requires.inside (c.requires.order h).1),
    )

pub returns : goal.returns
returns c =
    let made = rw (c.remap_literal-left.ensures, c.fetch-lhs.ensures, c.remap_literal-right.ensures, c.fetch-rhs.ensures) at c.and-made.ensures in
    rw c.stash.ensures.0 (stepped-and _ _ _ _ c.requires _ _ _ (conjunction (goal.at.returns c).Else-rhs-eq0) made)
