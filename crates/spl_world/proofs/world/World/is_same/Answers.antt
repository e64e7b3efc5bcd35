use Rattle.spl_world.proofs.{Common.{◌∙◌, ap, bytes_eq, NodeId}, Slots.same_at}
use Rattle.spl_world.proofs.world.World.is_same.Goals as goal

pub returns : goal.returns
returns c = λ a b at to.
    let xs = c.args.self.now.slots.items in
    let from_is = c.id.ensures ∙ same_at xs c.args.from c.slot_at.result.now a c.slot_at.ensures at in
    let to_is = c.id-2.ensures ∙ same_at xs c.args.to c.slot_at-2.result.now b c.slot_at-2.ensures to in
    c.eq.ensures ∙ ap (λ (i : NodeId). bytes_eq i c.id-2.result.now) from_is ∙ ap (λ (i : NodeId). bytes_eq a i) to_is
