use Rattle.std.proofs.Common.{◌∙◌, arith, rules}
use Rattle.spl_memory.proofs.Held.{undo_more}
use Rattle.spl_memory.proofs.history.old_bytes.Goals as goal

pub loop-left-preserved : goal.loop-left-preserved
loop-left-preserved c = record {
  within = omega (arith, c.loop-left.invariant.within);
  rest = undo_more c.args.marks.now c.loop-left.left c.index-marks-left.result c.loop-left.old.items c.undo.new.bytes.items
      (omega (arith, c.loop-left-test.true)) c.loop-left.invariant.within (search rules) (search rules) ∙ c.loop-left.invariant.rest;
}
