use Rattle.std.proofs.Common.{arith}
use Rattle.spl_gen.{specs.Generated.root_lines, proofs.Texts.text_more}
use Rattle.spl_gen.proofs.generate.put_roots_of.Goals as goal

pub loop-number-preserved : goal.loop-number-preserved
loop-number-preserved c =
    text_more (root_lines c.args.circuit) c.args.w.now c.loop-number.w c.put_line.new.w _ c.loop-number.number-index 0
    (omega arith) c.loop-number.invariant (cc c.in_ok-put_line.ensures)
