use Rattle.spl_node.specs.Benches.{images_at}
use Rattle.spl_world.{specs.Views.{nodes_over, slot_up}, proofs.{Common.{◌≡◌, ◌∙◌, true}, Reading.{cell_as, up_as}}}
use Rattle.spl_world.proofs.world.World.cell.Goals as goal

pub returns : goal.returns
returns c = λ is m h up.
    let s = c.slot_at.result.now in
    let n = c.args.node.now in
    let at = c.index_of-slot.ensures.at in
    let is_up : slot_up s ≡ true = up_as c.args.circuit.now m (nodes_over c.args.self.now is) c.index_of-slot.result s n h c.slot_at.ensures at ∙ up in
    c.cell.ensures (images_at is s.position) is_up ∙ cell_as (nodes_over c.args.self.now is) c.index_of-slot.result s c.args.circuit.now n m c.slot_at.ensures at h
