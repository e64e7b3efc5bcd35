use Rattle.spl_world.{specs.{Calls.disks_view, Links.link_view, Views.{HoldsWorld, world_node_ids, seen}}, proofs.Calls.{links_failed, nodes_same}}
use Rattle.spl_world.proofs.{Calls.{left_nodes, nodes_left, call_failed}, Common.{◌≡◌, ◌∙◌, ◌+◌, sym, Some, slice_get, refl, Option, NodeId, CircuitWorld}}
use Rattle.spl_world.proofs.{Common.{messages, step_plan, tells_only, Event}, Happening.{step_refused, step_failed, step_handled}, Linking.faults_off}
use Rattle.spl_world.proofs.{Linking.{faults_ok, delivers_failed, delivers_still, done}, Reading.node_up, Results.failed, Seating.delivered_as}
use Rattle.spl_world.proofs.{Seating.{no_delivery, none_delivered, seats_differ, delivers_up}, world.World.deliver.Given.Over}
use Rattle.spl_world.proofs.world.World.deliver.Goals as goal
use Rattle.spl_node.specs.Benches.{images}
use Rattle.spl_sched.specs.declared.line.Step.TheVariants as step
use Rattle.spl_wire.specs.declared.answer.Answer.TheVariants as answer
use Rattle.spl_wire.specs.declared.answer.Refusal.TheVariants as refusal
use Rattle.spl_edge.proofs.Results.{on_ok}

-- no message is there
abbrev none : (g : Over) (c : goal.In-None g) (m : CircuitWorld) (a b : NodeId) → HoldsWorld c.args.sending.now.circuit m (seen g.D.Disk.view c.args.self.now c.args.pairs.now.items) → slice_get (world_node_ids c.args.self.now) c.args.sending.now.from ≡ Some a → slice_get (world_node_ids c.args.self.now) c.args.sending.now.to ≡ Some b
    → step_plan m (step.Deliver a b c.args.sending.now.circuit (c.args.sending.now.index + 1)) ≡ tells_only (answer.Refused refusal.NoMessage)
none g c m a b h at to = no_delivery m c.args.sending.now.circuit a b c.args.sending.now.index (none_delivered a (slice_get (messages m a b) c.args.sending.now.index) (sym c.in-None.is ∙ c.in_ok-delivery.ensures.event (images g.D.Disk.view c.args.pairs.now.items) m a b h at to)) (node_up c.args.sending.now.circuit m (seen g.D.Disk.view c.args.self.now c.args.pairs.now.items) c.args.sending.now.to b h to c.requires.up)

pub handle-requires-clause-own : goal.handle-requires-clause-own
handle-requires-clause-own g c = λ n to. rw (c.in-Some.is) at (c.in_ok-delivery.ensures.own n to)

pub carried-requires-clause-seats : goal.carried-requires-clause-seats
carried-requires-clause-seats g c = λ x y at to. seats_differ (seen g.D.Disk.view c.args.self.now c.args.pairs.now.items) c.args.sending.now.from c.args.sending.now.to x y c.requires.ready.sits c.requires.from_below c.requires.to_below c.requires.apart at to

-- ---- it isn't carried

pub returns-in_err-delivery-clause-leaves : goal.returns-in_err-delivery-clause-leaves
returns-in_err-delivery-clause-leaves g c =
    let f = c.in_err-delivery.field-0.0 in
    call_failed c.from_residual.result c.from_residual.ensures (links_failed _ _ c.in_err-delivery.ensures.faults
    (left_nodes (failed (Option Event) f) c.args.self.now c.args.self.now refl (disks_view g.D.Disk.view c.args.pairs.now.items) c.in_err-delivery.ensures.disk tt))

pub returns-in_err-delivery-clause-runs : goal.returns-in_err-delivery-clause-runs
returns-in_err-delivery-clause-runs g c = λ a b at to.
    let sent = c.args.sending.now in
    let xs = seen g.D.Disk.view c.args.self.now c.args.pairs.now.items in
    let x = link_view (g.C.Carry.view c.args.carrier.now) (g.F.Fabric.view c.args.fabric.now) in
    let y = link_view (g.C.Carry.view c.carried.new.carrier) (g.F.Fabric.view c.carried.new.fabric) in
    record {
      event = step_failed (step.Deliver a b c.args.sending.now.circuit (c.args.sending.now.index + 1)) xs c.in_err-delivery.field-0.0 c.from_residual.result c.from_residual.ensures;
      links = λ place m placed h.
          delivers_up c.from_residual.result place m a b sent.circuit sent.index x y (node_up sent.circuit m xs sent.to b h to c.requires.up)
          (delivers_failed c.from_residual.result c.in_err-delivery.field-0.0 c.from_residual.ensures _ x y (c.in_err-delivery.ensures.links place xs.disks m a b placed h at to));
    }

-- ---- there is none

pub returns-in-None-clause-leaves : goal.returns-in-None-clause-leaves
returns-in-None-clause-leaves g c =
    nodes_left _ _ c.in_ok-delivery.ensures.ready (faults_ok _ _ _ c.in_ok-delivery.ensures.faults.onward)
    (nodes_same _ c.args.self.now c.args.self.now refl (disks_view g.D.Disk.view c.args.pairs.now.items) c.requires.ready.sits)

pub returns-in-None-clause-runs : goal.returns-in-None-clause-runs
returns-in-None-clause-runs g c = λ a b at to.
    let sent = c.args.sending.now in
    let xs = seen g.D.Disk.view c.args.self.now c.args.pairs.now.items in
    let x = link_view (g.C.Carry.view c.args.carrier.now) (g.F.Fabric.view c.args.fabric.now) in
    let y = link_view (g.C.Carry.view c.carried.new.carrier) (g.F.Fabric.view c.carried.new.fabric) in
    record {
      event = step_refused (step.Deliver a b c.args.sending.now.circuit (c.args.sending.now.index + 1)) xs refusal.NoMessage (λ m h. none g c m a b h at to);
      links = λ place m placed h.
          delivers_up done place m a b sent.circuit sent.index x y (node_up sent.circuit m xs sent.to b h to c.requires.up)
          (c.in_ok-delivery.ensures.links place xs.disks m a b placed h at to);
    }

-- ---- it comes

pub returns-in-Some-clause-leaves : goal.returns-in-Some-clause-leaves
returns-in-Some-clause-leaves g c =
    let off = c.handle.ensures.faults.unlinked in
    nodes_left _ _ (on_ok c.handle.result c.in_ok-delivery.ensures.ready) (faults_off c.handle.result _ _ off c.in_ok-delivery.ensures.faults.onward) c.handle.ensures.leaves

pub returns-in-Some-clause-runs : goal.returns-in-Some-clause-runs
returns-in-Some-clause-runs g c = λ a b at to.
    let sent = c.args.sending.now in
    let xs = seen g.D.Disk.view c.args.self.now c.args.pairs.now.items in
    let x = link_view (g.C.Carry.view c.args.carrier.now) (g.F.Fabric.view c.args.fabric.now) in
    let y = link_view (g.C.Carry.view c.carried.new.carrier) (g.F.Fabric.view c.carried.new.fabric) in
    record {
      event = step_handled (step.Deliver a b c.args.sending.now.circuit (c.args.sending.now.index + 1)) xs c.in-Some.event c.handle.result
          (seen g.D.Disk.view c.handle.new.self c.handle.new.pairs.items)
          (λ m h. delivered_as m c.args.sending.now.circuit a b c.args.sending.now.index c.in-Some.event (sym c.in-Some.is ∙ c.in_ok-delivery.ensures.event xs.disks m a b h at to) (node_up c.args.sending.now.circuit m xs c.args.sending.now.to b h to c.requires.up))
          (c.handle.ensures.event b to);
      links = λ place m placed h.
          delivers_up c.handle.result place m a b sent.circuit sent.index x y (node_up sent.circuit m xs sent.to b h to c.requires.up)
          (delivers_still c.handle.result _ x y c.handle.ensures.faults.unlinked (c.in_ok-delivery.ensures.links place xs.disks m a b placed h at to));
    }

pub returns-in-Some-clause-faults : goal.returns-in-Some-clause-faults
returns-in-Some-clause-faults g c = c.handle.ensures.faults.event
