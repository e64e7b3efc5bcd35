use Rattle.spl_node.proofs.Carrying.{sound_applied}
use Rattle.spl_node.proofs.done.replayed.Goals as goal

pub returns-in-Ok-clause-sound : goal.returns-in-Ok-clause-sound
returns-in-Ok-clause-sound c =
    sound_applied c.args.cell.now c.replay.new.self c.args.changes.now c.requires.sound c.in-Ok.ensures.fixed c.in-Ok.ensures.running c.requires.written
    c.in-Ok.ensures.ok
