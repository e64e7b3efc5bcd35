use Rattle.spl_world.proofs.Common.{refl, slice_get_read}
use Rattle.spl_world.proofs.world.World.slot_at.Goals as goal

pub returns : goal.returns
returns c = slice_get_read c.args.self.now.slots.items _ c.args.slot c.index.result.now refl c.requires.below c.index.ensures
