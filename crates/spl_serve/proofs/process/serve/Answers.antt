-- Turn after turn.
use Rattle.std.proofs.Common.{[], refl, arith}
use Rattle.spl_edge.specs.Devices.{pair_view}
use Rattle.spl_serve.{specs.{Processes.process_view, Servers.{server_served, server_here}}, proofs.{Coming.{grown_none, on_err}, Running.ends_lost}}
use Rattle.spl_serve.proofs.Running.{ends_more, goes_still, one_more, pair_join, pair_same, stops_now}
use Rattle.spl_serve.proofs.process.serve.Goals as goal

pub returns-in_err-ticks-clause-ends : goal.returns-in_err-ticks-clause-ends
returns-in_err-ticks-clause-ends g c =
    on_err c.from_residual.result
    (ends_lost (server_here c.args.server) c.args.nodes.now (server_served c.args.server)
    (process_view (pair_view g.D.Disk.view c.args.disks.now) (g.P.Ports.view c.args.ports.now))
    (process_view (pair_view g.D.Disk.view c.args.disks.now) (g.P.Ports.view c.args.ports.now)) [] refl (grown_none (g.P.Ports.view c.args.ports.now)))

pub loop-init : goal.loop-init
loop-init g c =
    record {
      goes = record {
        kept = [];
        count = refl;
        unasked = refl;
        goes = goes_still c.args.nodes.now
            (process_view (pair_view g.D.Disk.view c.args.disks.now) (g.P.Ports.view c.args.ports.now)) c.args.server c.requires;
      };
      onward = pair_same (pair_view g.D.Disk.view c.args.disks.now);
    }

pub returns-in_err-after-clause-ends : goal.returns-in_err-after-clause-ends
returns-in_err-after-clause-ends g c =
    on_err c.from_residual-in_err-after.result
    (ends_more (server_here c.args.server) c.args.nodes.now (server_served c.args.server)
    (process_view (pair_view g.D.Disk.view c.args.disks.now) (g.P.Ports.view c.args.ports.now))
    (process_view (pair_view g.D.Disk.view c.loop.disks) (g.P.Ports.view c.loop.ports))
    (process_view (pair_view g.D.Disk.view c.run_turn.new.disks) (g.P.Ports.view c.run_turn.new.ports)) c.loop.invariant.goes.kept c.loop.server
    c.loop.invariant.goes.goes c.loop.invariant.goes.unasked c.in_err-after.ensures.ends)

pub loop-preserved : goal.loop-preserved
loop-preserved g c = record {
  goes = one_more (server_here c.args.server) c.args.nodes.now (server_served c.args.server)
      (process_view (pair_view g.D.Disk.view c.args.disks.now) (g.P.Ports.view c.args.ports.now))
      (process_view (pair_view g.D.Disk.view c.loop.disks) (g.P.Ports.view c.loop.ports))
      (process_view (pair_view g.D.Disk.view c.run_turn.new.disks) (g.P.Ports.view c.run_turn.new.ports)) c.loop.server c.in_ok-after.after c.loop.counter
      c.in_ok-after.stops c.if-stops.false c.loop.invariant.goes c.in_ok-after.ensures.goes;
  onward = pair_join (pair_view g.D.Disk.view c.args.disks.now) (pair_view g.D.Disk.view c.loop.disks)
      (pair_view g.D.Disk.view c.run_turn.new.disks) c.loop.invariant.onward c.in_ok-after.ensures.onward;
}

pub returns-clause-serves : goal.returns-clause-serves
returns-clause-serves g c = record {
  kept = c.loop.invariant.goes.kept;
  count = omega (arith, c.loop.invariant.goes.count);
  unasked = c.loop.invariant.goes.unasked;
  server = c.loop.server;
  goes = c.loop.invariant.goes.goes;
}

pub returns-then-stops-clause-serves : goal.returns-then-stops-clause-serves
returns-then-stops-clause-serves g c =
    stops_now (server_here c.args.server) c.args.nodes.now (server_served c.args.server)
    (process_view (pair_view g.D.Disk.view c.args.disks.now) (g.P.Ports.view c.args.ports.now))
    (process_view (pair_view g.D.Disk.view c.loop.disks) (g.P.Ports.view c.loop.ports))
    (process_view (pair_view g.D.Disk.view c.run_turn.new.disks)
    (g.P.Ports.view c.run_turn.new.ports)) c.loop.server c.in_ok-after.after c.loop.counter c.args.turns c.in_ok-after.stops
    (omega arith) c.if-stops.true c.loop.invariant.goes c.in_ok-after.ensures.goes
