use Rattle.spl_node.proofs.Packs.{sound_of}
use Rattle.spl_node.proofs.cells.Cells.bound.Goals as goal

pub all_bound-requires : goal.all_bound-requires
all_bound-requires c = sound_of c.self.inside.here c.self.inside.map.entries c.self.invariant
