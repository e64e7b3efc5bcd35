use Rattle.std.proofs.lemmas.Option.{same_Some}
use Rattle.spl_world.{specs.{Kept.{lists_about, sent_to}, Views.{nodes_over, world_node_ids}}, proofs.Common.{◌≡◌, ◌∙◌, ℕ, true, false, length, slice_get}}
use Rattle.spl_world.proofs.{Common.{ap, sym, subst, arith, bytes_eq, bytes_same, NodeId}, Reading.{messages_as, no_messages}, Slots.apart}
use Rattle.spl_world.proofs.world.World.count.Goals as goal

pub returns-then-from-to : goal.returns-then-from-to
returns-then-from-to c = λ is m a b h at to.
    let here : c.args.from ≡ c.args.to = omega (arith, c.if-from-to.true) in
    let same : a ≡ b = same_Some a b (sym at ∙ (ap (λ (i : ℕ). slice_get (world_node_ids c.args.self.now) i) here ∙ to)) in
    ap length (sym (no_messages m a b (subst (λ (n : NodeId). bytes_eq a n ≡ true) same (bytes_same a))))

pub returns : goal.returns
returns c = λ is m a b h at to.
    let other : bytes_eq a b ≡ false = apart (world_node_ids c.args.self.now) c.args.to c.args.from b a h.ordered to at (λ (e : c.args.from ≡ c.args.to). omega (arith, e, c.if-from-to.false)) in
    c.count.ensures ∙ ap (λ (i : NodeId). length (sent_to (lists_about c.slot_at-2.result.now.posts c.args.circuit.now) i)) c.id-recipient.ensures
    ∙ ap length (messages_as (nodes_over c.args.self.now is) c.args.from c.args.to c.slot_at-2.result.now c.slot_at.result.now c.args.circuit.now a b m c.slot_at-2.ensures c.slot_at.ensures at to h other)
