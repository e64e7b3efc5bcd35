use Rattle.std.proofs.Common.{arith}
use Rattle.spl_gen.{specs.Generated.accepted, proofs.Texts.text_more}
use Rattle.spl_gen.proofs.generate.put_acceptances.Goals as goal

pub loop-number-preserved : goal.loop-number-preserved
loop-number-preserved c =
    text_more (accepted c.args.circuit) c.args.w.now c.loop-number.w c.put_settled.new.w _ c.loop-number.number-index 0
    (omega arith) c.loop-number.invariant (cc c.in_ok-put_settled.ensures)
