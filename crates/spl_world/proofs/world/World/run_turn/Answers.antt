use Rattle.spl_world.{specs.{Calls.{RunsAndCarries, around}, Turns.IsThere, Views.world_node_ids}, proofs.{Calls.unlinked, Common.{subst, Step}}}
use Rattle.spl_world.proofs.{Linking.delivers_nothing, Stepping.{delivery_step, tick_step}}
use Rattle.spl_world.proofs.world.World.run_turn.Goals as goal

-- ---- a tick

pub event_at-requires-clause-below : goal.event_at-requires-clause-below
event_at-requires-clause-below g c = subst (IsThere c.args.self.now) c.in-Tick.is c.requires.there

pub returns-in-Tick-clause-leaves : goal.returns-in-Tick-clause-leaves
returns-in-Tick-clause-leaves g c = unlinked _ c.requires.ready.ready c.event_at.ensures.faults.unlinked c.event_at.ensures.leaves

pub returns-in-Tick-clause-runs : goal.returns-in-Tick-clause-runs
returns-in-Tick-clause-runs g c =
    let x = around g.D.Disk.view g.C.Carry.view g.F.Fabric.view c.args.pairs.now.items c.args.carrier.now c.args.fabric.now in
    let y = around g.D.Disk.view g.C.Carry.view g.F.Fabric.view c.event_at.new.pairs.items c.args.carrier.now c.args.fabric.now in
    tick_step (λ (r : Step). RunsAndCarries r c.event_at.result c.args.self.now c.event_at.new.self x y)
    (world_node_ids c.args.self.now) c.args.circuit c.args.turn.now c.in-Tick.slot _ c.in-Tick.is
    (λ n at. record {
      event = c.event_at.ensures.event n at;
      links = λ place m placed h. delivers_nothing c.event_at.result x.links (g.met.C.Carry.idle c.args.carrier.now) c.event_at.ensures.faults.unlinked;
    })

pub returns-in-Tick-clause-faults : goal.returns-in-Tick-clause-faults
returns-in-Tick-clause-faults g c = c.event_at.ensures.faults.event

-- ---- a delivery

pub deliver_at-requires-clause-from_below : goal.deliver_at-requires-clause-from_below
deliver_at-requires-clause-from_below g c = (subst (IsThere c.args.self.now) c.in-Deliver.is c.requires.there).0

pub deliver_at-requires-clause-to_below : goal.deliver_at-requires-clause-to_below
deliver_at-requires-clause-to_below g c = (subst (IsThere c.args.self.now) c.in-Deliver.is c.requires.there).1

pub deliver_at-requires-clause-apart : goal.deliver_at-requires-clause-apart
deliver_at-requires-clause-apart g c = (subst (IsThere c.args.self.now) c.in-Deliver.is c.requires.there).2

pub returns-in-Deliver-clause-runs : goal.returns-in-Deliver-clause-runs
returns-in-Deliver-clause-runs g c =
    let x = around g.D.Disk.view g.C.Carry.view g.F.Fabric.view c.args.pairs.now.items c.args.carrier.now c.args.fabric.now in
    let y = around g.D.Disk.view g.C.Carry.view g.F.Fabric.view c.deliver_at.new.pairs.items c.deliver_at.new.carrier c.deliver_at.new.fabric in
    delivery_step (λ (r : Step). RunsAndCarries r c.deliver_at.result c.args.self.now c.deliver_at.new.self x y)
    (world_node_ids c.args.self.now) c.args.circuit c.args.turn.now c.in-Deliver.from c.in-Deliver.to c.in-Deliver.index c.in-Deliver.is c.deliver_at.ensures.runs
