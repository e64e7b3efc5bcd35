use Rattle.std.proofs.Common.{arith}
use Rattle.spl_state.proofs.Zeros.{empty_more}
use Rattle.spl_state.proofs.beginnings.empty_pairs.Goals as goal

pub loop-pairs-preserved : goal.loop-pairs-preserved
loop-pairs-preserved c =
    record {
      low = omega arith;
      empty = empty_more c.loop-pairs.pairs c.args.parts.now c.loop-pairs.invariant.empty (c.is_empty_pair.ensures c.if-is_empty_pair.true);
    }
