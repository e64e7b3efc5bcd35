use Rattle.std.{specs.Prelude.{List, ◌+◌, ◌<◌, ◌^◌, length, map}, proofs.Common.{◌≡◌, ◌∙◌, sym, subst}}
use Rattle.spl_edge.specs.Devices.{image_now, pair_view}
use Rattle.spl_delta.specs.Kept.{watchers_of}
use Rattle.spl_node.specs.{Stands.circuit_cell, Turns.given_in, declared.node.Outcome.Outcome}
use Rattle.spl_serve.{specs.Turns.{events_in, served_past}, proofs.{Deeds.past_cells, Keeping.{departs, events_given, server_stands}, Turning.served_is}}
use Rattle.spl_serve.proofs.turn.ServerTurn.keep.Goals as goal

pub returns-clause-departures : goal.returns-clause-departures
returns-clause-departures g c =
    λ here before ds was. departs here before ds c.in_ok-departures.departures.items c.args.self.slots.items (map given_in c.in_ok-node.given.items)
    c.in_ok-departures.ensures was.slots (c.in_ok-node.ensures.given here before.cells (events_in ds) was.turn)

pub returns-clause-served : goal.returns-clause-served
returns-clause-served g c = λ here before ds was. served_is (circuit_cell c.in_ok-node.node) (watchers_of c.args.self.watchers) (served_past here before ds)
    ((λ i k. c.in_ok-node.ensures.cells here before.cells (events_in ds) was.turn k i) ∙ sym (past_cells here before ds)) (λ i k. was.watchers k i)

pub returns-clause-stands : goal.returns-clause-stands
returns-clause-stands g c =
    λ here before ds was. server_stands
    (record { node = c.in_ok-node.node; runs = c.args.self.runs; tally = c.after-tally.result; watchers = c.args.self.watchers })
    (pair_view g.D.Disk.view c.keep.new.disks) here before.cells
    (image_now (g.D.Disk.view c.args.disks.now.first)) (image_now (g.D.Disk.view c.args.disks.now.second)) c.in_ok-node.ensures.running
    (c.in_ok-node.ensures.stands here before.cells (events_in ds) was.turn)

pub returns-clause-events : goal.returns-clause-events
returns-clause-events g c =
    λ here before ds was. events_given here before.cells (events_in ds) c.in_ok-node.given.items c.args.self.tally.events c.after-tally.result.events
    (c.in_ok-node.ensures.given here before.cells (events_in ds) was.turn)
    (subst (λ (os : List Outcome). c.args.self.tally.events + length os < 2 ^ 64
    → c.after-tally.result.events ≡ c.args.self.tally.events + length os) c.as_slice.ensures.value c.after-tally.ensures.events)
