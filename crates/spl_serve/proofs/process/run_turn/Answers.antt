-- A turn, up to where it ends.
use Rattle.std.proofs.Common.{[], Option, refl, ◌∙◌, ap, subst}
use Rattle.spl_edge.specs.Devices.{image_now, pair_view}
use Rattle.spl_serve.specs.{Outside.{PortsView, grown_by}, Processes.{TakesAll, process_view}, Servers.{server_served, server_here}}
use Rattle.spl_serve.proofs.{Coming.{grown_none, on_err}, Running.ends_lost, Turned.{turn_began, turn_kept, turn_pair, turn_unkept, turn_unsaid}}
use Rattle.spl_serve.proofs.Turning.{all_twice}
use Rattle.spl_serve.proofs.process.run_turn.Goals as goal

pub returns-in_err-now-clause-ends : goal.returns-in_err-now-clause-ends
returns-in_err-now-clause-ends g c =
    on_err c.from_residual.result
    (ends_lost (server_here c.args.server) c.args.nodes.now (server_served c.args.server)
    (process_view (pair_view g.D.Disk.view c.args.disks.now) (g.P.Ports.view c.args.ports.now))
    (process_view (pair_view g.D.Disk.view c.args.disks.now) (g.P.Ports.view c.wait.new.self)) [] refl
    (c.wait.ensures ∙ grown_none (g.P.Ports.view c.args.ports.now)))

pub returns-in_err-stops-clause-ends : goal.returns-in_err-stops-clause-ends
returns-in_err-stops-clause-ends g c =
    on_err c.from_residual-in_err-stops.result
    (ends_lost (server_here c.args.server) c.args.nodes.now (server_served c.args.server)
    (process_view (pair_view g.D.Disk.view c.args.disks.now) (g.P.Ports.view c.args.ports.now))
    (process_view (pair_view g.D.Disk.view c.args.disks.now) (g.P.Ports.view c.take_all.new.ports)) c.in_err-stops.ensures.comes.came refl
    (c.in_err-stops.ensures.comes.ports ∙ ap (grown_by c.in_err-stops.ensures.comes.came []) c.wait.ensures))

pub returns-in_err-tick_all-clause-ends : goal.returns-in_err-tick_all-clause-ends
returns-in_err-tick_all-clause-ends g c =
    on_err c.from_residual-in_err-tick_all.result
    (ends_lost (server_here c.args.server) c.args.nodes.now (server_served c.args.server)
    (process_view (pair_view g.D.Disk.view c.args.disks.now) (g.P.Ports.view c.args.ports.now))
    (process_view (pair_view g.D.Disk.view c.args.disks.now) (g.P.Ports.view c.take_all.new.ports)) c.in_ok-stops.ensures.takes.came refl
    (c.in_ok-stops.ensures.takes.ports ∙ ap (grown_by c.in_ok-stops.ensures.takes.came []) c.wait.ensures))

pub keep-requires-clause-began : goal.keep-requires-clause-began
keep-requires-clause-began g c =
    turn_began c.args.server c.args.nodes.now (g.P.Ports.view c.wait.new.self)
    (g.P.Ports.view c.take_all.new.ports) c.begin-turn.result c.tick_all.new.turn c.begin-turn.ensures.nothing
    (all_twice c.args.nodes.now (g.P.Ports.view c.wait.new.self) (g.P.Ports.view c.take_all.new.ports)
    (g.P.Ports.view c.take_all.new.ports) c.begin-turn.result c.take_all.new.turn c.tick_all.new.turn c.in_ok-stops.ensures.takes
    (c.in_ok-tick_all.ensures (g.P.Ports.view c.take_all.new.ports)))

pub keep-requires-clause-pair : goal.keep-requires-clause-pair
keep-requires-clause-pair g c =
    turn_pair c.args.server c.begin-turn.result c.tick_all.new.turn (image_now (g.D.Disk.view c.args.disks.now.first))
    (image_now (g.D.Disk.view c.args.disks.now.second)) c.begin-turn.ensures.node
    (all_twice c.args.nodes.now (g.P.Ports.view c.wait.new.self) (g.P.Ports.view c.take_all.new.ports)
    (g.P.Ports.view c.take_all.new.ports) c.begin-turn.result c.take_all.new.turn c.tick_all.new.turn c.in_ok-stops.ensures.takes
    (c.in_ok-tick_all.ensures (g.P.Ports.view c.take_all.new.ports))).goes c.requires.stands.pair

pub returns-in_err-server-clause-ends : goal.returns-in_err-server-clause-ends
returns-in_err-server-clause-ends g c =
    on_err c.from_residual-in_err-server.result
    (turn_unkept c.args.server c.args.nodes.now (process_view (pair_view g.D.Disk.view c.args.disks.now) (g.P.Ports.view c.args.ports.now))
    (process_view (pair_view g.D.Disk.view c.keep.new.disks) (g.P.Ports.view c.take_all.new.ports))
    (g.P.Ports.view c.take_all.new.ports) c.begin-turn.result c.tick_all.new.turn c.begin-turn.ensures.nothing
    (subst (λ (p : Option PortsView). TakesAll c.args.nodes.now c.in_ok-stops.stops p
    (g.P.Ports.view c.take_all.new.ports) c.begin-turn.result c.tick_all.new.turn) c.wait.ensures
    (all_twice c.args.nodes.now (g.P.Ports.view c.wait.new.self) (g.P.Ports.view c.take_all.new.ports)
    (g.P.Ports.view c.take_all.new.ports) c.begin-turn.result c.take_all.new.turn c.tick_all.new.turn c.in_ok-stops.ensures.takes
    (c.in_ok-tick_all.ensures (g.P.Ports.view c.take_all.new.ports))))
    c.requires c.in_err-server.ensures.onward c.tick_all.new.turn.turn.node.pairing.second c.in_err-server.ensures.any_moment refl)

pub returns-in_err-put_all-clause-ends : goal.returns-in_err-put_all-clause-ends
returns-in_err-put_all-clause-ends g c =
    on_err c.from_residual-in_err-put_all.result
    (turn_unsaid c.args.server c.args.nodes.now (process_view (pair_view g.D.Disk.view c.args.disks.now) (g.P.Ports.view c.args.ports.now))
    (process_view (pair_view g.D.Disk.view c.keep.new.disks) (g.P.Ports.view c.put_all.new.ports))
    (g.P.Ports.view c.take_all.new.ports) c.begin-turn.result c.tick_all.new.turn c.begin-turn.ensures.nothing
    (subst (λ (p : Option PortsView). TakesAll c.args.nodes.now c.in_ok-stops.stops p
    (g.P.Ports.view c.take_all.new.ports) c.begin-turn.result c.tick_all.new.turn) c.wait.ensures
    (all_twice c.args.nodes.now (g.P.Ports.view c.wait.new.self) (g.P.Ports.view c.take_all.new.ports)
    (g.P.Ports.view c.take_all.new.ports) c.begin-turn.result c.take_all.new.turn c.tick_all.new.turn c.in_ok-stops.ensures.takes
    (c.in_ok-tick_all.ensures (g.P.Ports.view c.take_all.new.ports))))
    c.requires c.in_ok-server.ensures.onward c.tick_all.new.turn.turn.node.pairing.second c.in_ok-server.ensures.any_moment
    c.as_slice.result.now (λ here before es was. c.as_slice.ensures.value ∙ c.in_ok-server.ensures.departures here before es was) c.in_err-put_all.ensures.part)

pub returns-clause-goes : goal.returns-clause-goes
returns-clause-goes g c =
    turn_kept c.args.server c.args.nodes.now (process_view (pair_view g.D.Disk.view c.args.disks.now) (g.P.Ports.view c.args.ports.now))
    (process_view (pair_view g.D.Disk.view c.keep.new.disks) (g.P.Ports.view c.put_all.new.ports))
    (g.P.Ports.view c.take_all.new.ports) c.begin-turn.result c.tick_all.new.turn c.begin-turn.ensures.nothing
    (subst (λ (p : Option PortsView). TakesAll c.args.nodes.now c.in_ok-stops.stops p
    (g.P.Ports.view c.take_all.new.ports) c.begin-turn.result c.tick_all.new.turn) c.wait.ensures
    (all_twice c.args.nodes.now (g.P.Ports.view c.wait.new.self) (g.P.Ports.view c.take_all.new.ports)
    (g.P.Ports.view c.take_all.new.ports) c.begin-turn.result c.take_all.new.turn c.tick_all.new.turn c.in_ok-stops.ensures.takes
    (c.in_ok-tick_all.ensures (g.P.Ports.view c.take_all.new.ports))))
    c.requires c.in_ok-server.ensures.onward c.tick_all.new.turn.turn.node.pairing.second c.in_ok-server.ensures.any_moment
    c.as_slice.result.now (λ here before es was. c.as_slice.ensures.value ∙ c.in_ok-server.ensures.departures here before es was) c.in_ok-server.server
    c.in_ok-server.ensures.here c.in_ok-server.ensures.running c.in_ok-server.ensures.pair c.in_ok-server.ensures.told c.in_ok-server.ensures.served
    c.in_ok-server.ensures.stands
    c.in_ok-put_all.ensures.all
