use Rattle.spl_node.proofs.Packs.{sound_of}
use Rattle.spl_node.proofs.packing.CellsPacked.pack.Goals as goal

pub pack_all-requires : goal.pack_all-requires
pack_all-requires c = sound_of c.self.inside.here c.self.inside.map.entries c.self.invariant
