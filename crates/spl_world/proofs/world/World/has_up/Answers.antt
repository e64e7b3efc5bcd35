use Rattle.spl_world.proofs.world.World.has_up.Goals as goal

pub returns : goal.returns
returns c = λ is i m h. c.is_up.ensures.world is i m c.args.node.now h c.index_of-slot.ensures.at
