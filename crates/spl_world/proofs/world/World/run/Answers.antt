use Rattle.spl_world.{specs.{Calls.{RunsAndCarries, around}, Links.link_view, Views.world_node_ids}, proofs.{Calls.unlinked, Common.{◌≡◌, ℕ, ◌∙◌, sym}}}
use Rattle.spl_world.proofs.{Common.{subst, Some, false, bytes_eq, NodeId}, Linking.delivers_nothing}
use Rattle.spl_world.proofs.world.World.run.Goals as goal
use Rattle.spl_sched.specs.declared.line.Step.TheVariants as step
use Rattle.spl_circuit_world.proofs.Defined.{step_for, pair_apart, number_back, second_known}

pub event_at-requires-clause-own : goal.event_at-requires-clause-own
event_at-requires-clause-own g c = λ n at. step_for n c.in-At.node c.in-At.circuit c.in-At.event (rw (c.in-At.is) at c.requires.step.fits)

pub index_of-recipient-requires : goal.index_of-recipient-requires
index_of-recipient-requires g c = record { known = second_known (world_node_ids c.args.self.now) c.in-Deliver.from c.in-Deliver.to c.in-Deliver.circuit c.in-Deliver.number (rw (c.in-Deliver.is) at c.requires.step.known) }

pub deliver_at-requires-clause-apart : goal.deliver_at-requires-clause-apart
deliver_at-requires-clause-apart g c = λ a b at to.
    let sender : Some c.in-Deliver.from ≡ Some a = sym c.index_of-sender.ensures.at ∙ at in
    let recipient : Some c.in-Deliver.to ≡ Some b = sym c.index_of-recipient.ensures.at ∙ to in
    let from_is : c.in-Deliver.from ≡ a = cc in
    let to_is : c.in-Deliver.to ≡ b = cc in
    subst (λ (y : NodeId). bytes_eq a y ≡ false) to_is (subst (λ (x : NodeId). bytes_eq x c.in-Deliver.to ≡ false) from_is (pair_apart c.in-Deliver.from c.in-Deliver.to c.in-Deliver.circuit c.in-Deliver.number (rw (c.in-Deliver.is) at c.requires.step.fits)))

-- ---- an event at a node

pub returns-in-At-clause-leaves : goal.returns-in-At-clause-leaves
returns-in-At-clause-leaves g c = unlinked _ c.requires.ready.ready c.event_at.ensures.faults.unlinked c.event_at.ensures.leaves

pub returns-in-At-clause-runs : goal.returns-in-At-clause-runs
returns-in-At-clause-runs g c = rw (c.in-At.is) (record {
  event = c.event_at.ensures.event c.in-At.node c.index_of-slot.ensures.at;
  links = λ place m placed h. delivers_nothing c.event_at.result (link_view (g.C.Carry.view c.args.carrier.now) (g.F.Fabric.view c.args.fabric.now))
      (g.met.C.Carry.idle c.args.carrier.now) c.event_at.ensures.faults.unlinked;
})

pub returns-in-At-clause-faults : goal.returns-in-At-clause-faults
returns-in-At-clause-faults g c = c.event_at.ensures.faults.event

-- ---- a delivery

pub returns-in-Deliver-clause-runs : goal.returns-in-Deliver-clause-runs
returns-in-Deliver-clause-runs g c =
    let x = around g.D.Disk.view g.C.Carry.view g.F.Fabric.view c.args.pairs.now.items c.args.carrier.now c.args.fabric.now in
    let y = around g.D.Disk.view g.C.Carry.view g.F.Fabric.view c.deliver_at.new.pairs.items c.deliver_at.new.carrier c.deliver_at.new.fabric in
    let back = number_back c.in-Deliver.from c.in-Deliver.to c.in-Deliver.circuit c.in-Deliver.number (rw (c.in-Deliver.is) at c.requires.step.fits) in
    rw (c.in-Deliver.is) (subst (λ (k : ℕ). RunsAndCarries (step.Deliver c.in-Deliver.from c.in-Deliver.to c.in-Deliver.circuit k) c.deliver_at.result c.args.self.now c.deliver_at.new.self x y) back
    (c.deliver_at.ensures.runs c.in-Deliver.from c.in-Deliver.to c.index_of-sender.ensures.at c.index_of-recipient.ensures.at))
