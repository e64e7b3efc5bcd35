use Rattle.spl_world.{specs.{Cursor.TicksOn, Views.{HoldsWorld, world_node_ids, nodes_over}}, proofs.{Common.{sym, subst, CircuitId}, Cursor.passed_on}}
use Rattle.spl_world.proofs.Cursor.{passed_same}
use Rattle.spl_world.proofs.calm.Calm.in_pass.Goals as goal

pub returns-clause-on : goal.returns-clause-on
returns-clause-on c = λ is z sits h f.
    let j = c.args.self.now in
    let k = c.next_tick.new.self in
    let ids = world_node_ids c.args.world.now in
    let r = subst (λ t. TicksOn t ids j k z) c.in_default.is (c.next_tick.ensures.on is z sits h f) in
    let own = subst (λ (i : CircuitId). HoldsWorld i z.world (nodes_over c.args.world.now is)) (sym c.next_tick.ensures.circuit) h in
    passed_on ids j k c.next_delivery.new.self z c.next_delivery.result c.next_tick.ensures.circuit (passed_same ids j k z r.0 r.1) (c.next_delivery.ensures.on is z own r.1)

pub returns-in-Some-clause-on : goal.returns-in-Some-clause-on
returns-in-Some-clause-on c = λ is z sits h f. subst (λ t. TicksOn t (world_node_ids c.args.world.now) c.args.self.now c.next_tick.new.self z) c.in-Some.is (c.next_tick.ensures.on is z sits h f)
