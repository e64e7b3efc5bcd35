use Rattle.std.proofs.Common.{◌∙◌}
use Rattle.spl_gen.proofs.{Texts.put_as, Parts.submitted_is}
use Rattle.spl_gen.proofs.generate.put_submit.Goals as goal

pub returns-clause-text : goal.returns-clause-text
returns-clause-text c =
    put_as c.put_settled.result _ _ c.args.w.now c.put_settled.new.w c.put_settled.ensures
    (submitted_is c.args.number c.args.draws.now _ _ _ _ _ _ _ _ _ c.of-circuit.ensures c.draw.ensures.value c.draw.ensures.state c.member-member.ensures
    c.draw-place.ensures.value c.draw-place.ensures.state c.draw-2.ensures.value
    (c.in_ok-new.ensures ∙ c.in_ok-batch.ensures) c.at.ensures)
