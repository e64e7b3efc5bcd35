use Rattle.spl_world.{specs.{Halts.delivery_of, Kept.belongs, Views.slot_id}, proofs.Common.{◌≡◌, ◌∙◌, true, ap, sym, subst, slice_get, messages, Message}}
use Rattle.spl_world.proofs.{Seating.{found_delivery, is_for}, Slots.{id_at, same_at}}
use Rattle.spl_world.proofs.world.World.delivery.Goals as goal

pub returns-in-None-clause-event : goal.returns-in-None-clause-event
returns-in-None-clause-event c = λ is m a b h at to. ap (delivery_of a) (c.in-None.ensures.value is m a b h at to)

pub returns-clause-event : goal.returns-clause-event
returns-clause-event c = λ is m a b h at to.
    found_delivery a c.id-sender.result.now c.in-Some.message.now c.in_ok-message-in-Some.message (slice_get (messages m a b) c.args.index)
    (c.id-sender.ensures ∙ same_at c.args.self.now.slots.items c.args.from c.slot_at.result.now a c.slot_at.ensures at) c.in_ok-message-in-Some.ensures
    (c.in-Some.ensures.value is m a b h at to)

pub returns-clause-own : goal.returns-clause-own
returns-clause-own c = λ n to.
    let here = id_at c.args.self.now.slots.items c.args.from c.slot_at.result.now c.slot_at.ensures in
    is_for n c.id-sender.result.now c.args.circuit.now c.in_ok-message-in-Some.message (rw (c.id-sender.ensures) (c.requires.apart (slot_id c.slot_at.result.now) n here to))
    (subst (λ (x : Message). belongs c.args.circuit.now x ≡ true) (sym c.in_ok-message-in-Some.ensures) c.in-Some.ensures.belongs)
