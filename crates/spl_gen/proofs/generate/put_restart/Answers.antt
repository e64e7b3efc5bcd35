use Rattle.std.proofs.Common.{[], ◌∷◌}
use Rattle.spl_sched.specs.declared.line.Line.TheVariants as line
use Rattle.spl_gen.{specs.Circuits.generated_node, proofs.Texts.{put_as, put_then}}
use Rattle.spl_gen.proofs.generate.put_restart.Goals as goal

pub returns : goal.returns
returns c =
    put_then c.put_line-2.result (line.Stop (generated_node c.args.number) ∷ [])
    (line.Start (generated_node c.args.number) ∷ []) c.args.w.now c.put_line.new.w c.put_line-2.new.w (cc c.in_ok-put_line.ensures)
    (put_as c.put_line-2.result (line.Start c.node-node.result ∷ [])
    (line.Start (generated_node c.args.number) ∷ []) c.put_line.new.w c.put_line-2.new.w c.put_line-2.ensures (cc))
