use Rattle.spl_node.proofs.Carrying.{sound_moved}
use Rattle.spl_node.proofs.done.carried_out.Goals as goal

pub returns-clause-sound : goal.returns-clause-sound
returns-clause-sound c =
    sound_moved c.args.cell.now c.apply.new.self c.in_ok-plan.plan.changes c.in_ok-plan.plan.admin c.in_ok-plan.plan.service c.requires.sound
    c.in_ok-apply.ensures.fixed c.in_ok-apply.ensures.running c.in_ok-bytes.ensures.written c.in_ok-apply.ensures.ok
