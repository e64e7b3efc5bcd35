use Rattle.spl_node.specs.Benches.{images_at}
use Rattle.spl_world.{specs.Views.nodes_over, proofs.{Common.{◌∙◌, ap, Some}, Reading.{due_as, up_at}}}
use Rattle.spl_world.proofs.world.World.due.Goals as goal

pub returns-clause-world : goal.returns-clause-world
returns-clause-world c = λ is m n sits h at.
    let s = c.slot_at.result.now in
    c.due.ensures.due (images_at is s.position) (sits.each c.args.slot s c.slot_at.ensures)
    ∙ due_as (nodes_over c.args.self.now is) c.args.slot s c.args.circuit.now n m c.slot_at.ensures at h

pub returns-clause-up : goal.returns-clause-up
returns-clause-up c = λ some. up_at c.args.self.now.slots.items c.args.slot c.slot_at.result.now c.slot_at.ensures ∙ ap (λ b. Some b) (c.due.ensures.up some)
