use Rattle.std.proofs.Common.{[], ◌∷◌}
use Rattle.spl_sched.specs.declared.line.Line.TheVariants as line
use Rattle.spl_gen.{specs.Circuits.id, proofs.Texts.{put_as, put_then}}
use Rattle.spl_gen.proofs.lines.put_settled.Goals as goal

pub returns : goal.returns
returns c =
    put_then c.put_line-2.result (c.args.line ∷ [])
    (line.Calm (id c.args.circuit) 8 ∷ []) c.args.w.now c.put_line.new.w c.put_line-2.new.w c.in_ok-put_line.ensures
    (put_as c.put_line-2.result (line.Calm c.id.result 8 ∷ [])
    (line.Calm (id c.args.circuit) 8 ∷ []) c.put_line.new.w c.put_line-2.new.w c.put_line-2.ensures (cc))
