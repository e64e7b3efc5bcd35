use Rattle.std.proofs.lemmas.Option.{same_Some}
use Rattle.spl_world.{specs.{Kept.{SentLists, sent_to}, Views.{nodes_over, world_node_ids, slot_id}}, proofs.Common.{◌≡◌, ◌∙◌, ℕ, true, false, length}}
use Rattle.spl_world.proofs.{Common.{slice_get, ap, sym, subst, arith, bytes_eq, bytes_same, NodeId}, Reading.{messages_as, no_messages}, Slots.apart}
use Rattle.spl_world.proofs.world.World.count_in.Goals as goal
use Rattle.spl_node.proofs.Positions.{some_at}

pub returns-then-from-to : goal.returns-then-from-to
returns-then-from-to c = λ is d m a b h at to own.
    let here : c.args.from ≡ c.args.to = omega (arith, c.if-from-to.true) in
    let same : a ≡ b = same_Some a b (sym at ∙ (ap (λ (i : ℕ). slice_get (world_node_ids c.args.self.now) i) here ∙ to)) in
    ap length (sym (no_messages m a b (subst (λ (n : NodeId). bytes_eq a n ≡ true) same (bytes_same a))))

pub returns : goal.returns
returns c = λ is d m a b h at to own.
    let sender = some_at c.args.self.now.slots.items c.args.from c.requires.from_below in
    let other : bytes_eq a b ≡ false = apart (world_node_ids c.args.self.now) c.args.to c.args.from b a h.ordered to at (λ (e : c.args.from ≡ c.args.to). omega (arith, e, c.if-from-to.false)) in
    c.count.ensures ∙ ap (λ (i : NodeId). length (sent_to c.args.outbox.now i)) c.id.ensures
    ∙ ap (λ (ls : SentLists). length (sent_to ls (slot_id c.slot_at.result.now))) (sym (own sender.0 sender.1))
    ∙ ap length (messages_as (nodes_over c.args.self.now is) c.args.from c.args.to sender.0 c.slot_at.result.now d a b m sender.1 c.slot_at.ensures at to h other)
