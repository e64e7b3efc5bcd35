use Rattle.spl_edge.specs.Devices.{image_now}
use Rattle.spl_look.proofs.Told.{both_told}
use Rattle.spl_look.proofs.telling.tell_at.Goals as goal

pub returns-in-Ok-answer_of-clause-told : goal.returns-in-Ok-answer_of-clause-told
returns-in-Ok-answer_of-clause-told g c =
    both_told c.args.here c.args.circuit c.args.event.now c.in-Ok.cell.site c.in-Ok.cell.state c.in-Ok-answer_of.answer c.in-Ok.ensures.site
    c.in-Ok-answer_of.ensures
    (image_now (g.D.Disk.view c.args.disks.now.first)) (image_now (g.D.Disk.view c.args.disks.now.second)) c.in-Ok.ensures.peeked
