use Rattle.std.proofs.Common.{◌∙◌, ap, sym, subst, List, ℕ, IsTrue, rules}
use Rattle.spl_base.specs.Ids.{is_node_id}
use Rattle.spl_frame.specs.Frames.{frame}
use Rattle.spl_link.specs.{Sides.Side, Greetings.greeting}
use Rattle.spl_pump.{specs.Moves.GrowsPart, proofs.Meetings.{known_at, hand_is, not_refused}}
use Rattle.spl_pump.proofs.pump.greet.Goals as goal

pub unreachable-requires : goal.unreachable-requires
unreachable-requires g c =
    let spelled = c.bytes.ensures ∙ c.in_ok-hello.ensures.greeting ∙ ap (λ (s : Side). greeting s.opens s.here) c.new.ensures in
    let id : IsTrue (is_node_id c.node-here.result) = search rules in
    not_refused c.args.registry.now _ c.node-peer.result c.node-here.result _ _ _ c.a_peer_is_heard.ensures c.new-2.ensures id
    (known_at c.args.registry.now c.args.from c.node-here.result c.node-here.ensures)
    (c.bytes-2.ensures ∙ c.in_ok-body.ensures.same ∙ spelled) c.in-Err.ensures.err

pub returns-clause-part : goal.returns-clause-part
returns-clause-part g c =
    let spelled = c.bytes.ensures ∙ c.in_ok-hello.ensures.greeting ∙ ap (λ (s : Side). greeting s.opens s.here) c.new.ensures in
    subst (λ (l : List ℕ). GrowsPart c.args.from c.args.to l (g.F.Fabric.view c.args.fabric.now).put (g.F.Fabric.view c.exchange.new.fabric).put)
    (ap frame spelled ∙ sym (hand_is c.args.registry.now c.args.from c.args.to c.node-here.result c.node-here.ensures)) c.exchange.ensures.part
