use Rattle.std.proofs.Common.{suc, add-one}
use Rattle.spl_gen.{specs.Generated.{batches, batch_lines, state}, proofs.Texts.text_then}
use Rattle.spl_gen.proofs.generate.put_batches.Goals as goal

pub loop-before-preserved : goal.loop-before-preserved
loop-before-preserved c =
    let k = c.loop-before.before in
    let more = add-one k in
    record {
      text = rw more (text_then (batches k c.args.seed)
          (batch_lines (suc k) (state k c.args.seed)) c.args.w.now c.loop-before.w c.put_batch.new.w c.loop-before.invariant.text
          (cc c.in_ok-put_batch.ensures.text));
      state = rw more (cc c.in_ok-put_batch.ensures.state);
    }
