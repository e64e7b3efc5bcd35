use Rattle.std.proofs.Common.{arith}
use Rattle.spl_lines.proofs.Fed.{put_waits}
use Rattle.spl_lines.proofs.feed.Feed.put.Goals as goal
use Rattle.spl_edge.proofs.Sources.{limit_is}

pub overflow_sub-self : goal.overflow_sub-self
overflow_sub-self c = omega (arith, limit_is)

pub invariant_of-self-clause-few : goal.invariant_of-self-clause-few
invariant_of-self-clause-few c = omega (arith, limit_is)

pub returns-clause-waits : goal.returns-clause-waits
returns-clause-waits c =
    put_waits c.args.self.now.buffer.items c.extend_from_slice.new.self.items c.args.piece.now c.args.self.now.start c.min-within.result
    c.args.self.now.taken c.requires.prefix
    (rw c.unwrap.ensures at c.extend_from_slice.ensures.items) c.min-within.ensures
