use Rattle.spl_world.{specs.{Kept.{lists_about, sent_to}, Views.nodes_over}, proofs.{About.about_if, Common.{◌∙◌, ap, slice_get, List, NodeId, Message}}}
use Rattle.spl_world.proofs.Reading.{messages_as}
use Rattle.spl_world.proofs.world.World.message.Goals as goal

pub returns-clause-value : goal.returns-clause-value
returns-clause-value c = λ is m a b h at to.
    let sent = ap (λ (i : NodeId). sent_to (lists_about c.slot_at-2.result.now.posts c.args.circuit.now) i) c.id-recipient.ensures
    ∙ messages_as (nodes_over c.args.self.now is) c.args.from c.args.to c.slot_at-2.result.now c.slot_at.result.now c.args.circuit.now a b m
    c.slot_at-2.ensures c.slot_at.ensures at to h (c.requires.apart a b at to) in
    c.message.ensures.value ∙ ap (λ (ms : List Message). slice_get ms c.args.index) sent

pub returns-clause-belongs : goal.returns-clause-belongs
returns-clause-belongs c = about_if c.args.circuit.now (sent_to (lists_about c.slot_at-2.result.now.posts c.args.circuit.now) c.id-recipient.result.now) c.args.index _ c.message.ensures.about c.message.ensures.value
