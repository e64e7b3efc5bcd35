use Rattle.spl_world.{specs.declared.slot.Slot.Slot, proofs.{Common.{refl, ◌∙◌, length, ap, slice_get_read}, Handling.{pair_below, seat_at}}}
use Rattle.spl_world.proofs.world.World.place_of.Goals as goal
use Rattle.spl_node.proofs.Positions.{same_there}

pub returns-clause-below : goal.returns-clause-below
returns-clause-below g c =
    pair_below g.D.Disk.view c.args.self.now.slots.items c.args.pairs.now.items c.args.slot c.position.result c.slot_at.result.now c.requires.sits c.slot_at.ensures c.position.ensures

pub returns-clause-seat : goal.returns-clause-seat
returns-clause-seat g c = λ s p read pair.
    let ss = c.args.self.now.slots.items in
    let there = slice_get_read ss (length ss) c.args.slot s refl c.requires.below read in
    let place = c.position.ensures ∙ ap (λ (t : Slot). t.position) (same_there ss c.args.slot c.slot_at.result.now s c.slot_at.ensures there) in
    seat_at g.D.Disk.view ss c.args.pairs.now.items c.args.slot c.position.result s c.requires.sits there place p pair
