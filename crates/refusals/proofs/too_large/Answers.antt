-- `too_large` tests (D + 1) × F + R. Assumes nothing.
use Rattle.std.proofs.Common.{◌+◌, arith, add-one}
use Rattle.refusals.specs.RefusalLaws.{product_small}
use Rattle.refusals.specs.Refusals.{nodes_by}
use Rattle.refusals.proofs.too_large.Goals as goal

pub overflow_mul-result : goal.overflow_mul-result
overflow_mul-result c =
    omega (arith, product_small (c.args.depth + 1) c.nodes_per_cycle-frame.result 65 9345 (omega arith) c.nodes_per_cycle-frame.ensures.1)

pub overflow_add-result : goal.overflow_add-result
overflow_add-result c =
    omega (arith, product_small (c.args.depth + 1) c.nodes_per_cycle-frame.result 65 9345 (omega arith) c.nodes_per_cycle-frame.ensures.1)

pub returns : goal.returns
unfolding nodes_by
returns c = rw (c.nodes_per_cycle-frame.ensures.0, add-one)
