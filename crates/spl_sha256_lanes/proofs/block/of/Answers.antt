use Rattle.std.proofs.Common.{◌-◌, ◌*◌, ◌∙◌, arith}
use Rattle.spl_sha256_lanes.proofs.Blocks.{head_block, inner_block, tail_block}
use Rattle.spl_sha256_lanes.proofs.block.of.Goals as goal

pub returns-in-0-clause-block : goal.returns-in-0-clause-block
returns-in-0-clause-block c = c.head.ensures ∙ head_block c.args.first c.args.rest.now c.args.n c.told-rest c.in-0.is

pub returns-in-8-clause-block : goal.returns-in-8-clause-block
returns-in-8-clause-block c = c.tail.ensures ∙ tail_block c.args.first c.args.rest.now c.args.n c.told-rest c.in-8.is

pub returns-in_default-clause-block : goal.returns-in_default-clause-block
returns-in_default-clause-block c =
    c.inner.ensures ∙ inner_block c.args.first c.args.rest.now c.args.n (64 * c.args.n - 1) c.told-rest (omega arith) (omega arith)
