use Rattle.std.{specs.Option.option_copied, proofs.Common.{inl, inr, List, sym, ap, subst, rules}}
use Rattle.spl_edge.specs.Devices.{image_now}
use Rattle.spl_wire.specs.declared.change.Change.{Change}
use Rattle.spl_node.specs.{Handled.StopsArmed, Records.is_record, Stands.{here_of, circuit_cell}, Stopping.{StandForEither, cells_stopped, event_changes}}
use Rattle.spl_node.{specs.Stopping.{fill_of, keeps}, proofs.{Counting.standing_counts, Disks.settled_pair, Halting.{before_cells, picks_rest}}}
use Rattle.spl_node.proofs.Leaving.{rest_told}
use Rattle.spl_node.proofs.stopping.handle_armed.Goals as goal

pub returns-in-None : goal.returns-in-None
returns-in-None g c = record {
  tells = search rules;
  left =
      picks_rest (fill_of c.args.stopping) (here_of c.args.node.now) (circuit_cell c.args.node.now)
      (cells_stopped (here_of c.args.node.now) (circuit_cell c.args.node.now) c.args.circuit.now
      (event_changes (here_of c.args.node.now) (circuit_cell c.args.node.now) c.args.circuit.now (option_copied c.args.event)) (keeps c.args.stopping))
      (image_now (g.D.Disk.view c.args.disks.now.first)) (image_now (g.D.Disk.view c.args.disks.now.second))
      (before_cells (here_of c.args.node.now) c.args.circuit.now (circuit_cell c.args.node.now)
      (event_changes (here_of c.args.node.now) (circuit_cell c.args.node.now) c.args.circuit.now (option_copied c.args.event)) (keeps c.args.stopping)
      (inr (ap (λ (o : _). event_changes (here_of c.args.node.now) (circuit_cell c.args.node.now) c.args.circuit.now (option_copied o)) c.in-None.is)))
      (settled_pair is_record c.args.node.now.pairing (image_now (g.D.Disk.view c.args.disks.now.first))
      (image_now (g.D.Disk.view c.args.disks.now.second)) c.requires.stands.pair).0
      (settled_pair is_record c.args.node.now.pairing (image_now (g.D.Disk.view c.args.disks.now.first))
      (image_now (g.D.Disk.view c.args.disks.now.second)) c.requires.stands.pair).1 c.requires.stands.cells;
  leaves = rest_told (here_of c.args.node.now) (circuit_cell c.args.node.now)
      (StandForEither (here_of c.args.node.now) (circuit_cell c.args.node.now) c.args.circuit.now
      (event_changes (here_of c.args.node.now) (circuit_cell c.args.node.now) c.args.circuit.now (option_copied c.args.event)))
      (g.D.Disk.view c.args.disks.now.first).image_at (g.D.Disk.view c.args.disks.now.second).image_at (g.D.Disk.view c.args.disks.now.first).moment
      (g.D.Disk.view c.args.disks.now.second).moment (g.met.D.StopDisk.tells c.args.disks.now.first) (g.met.D.StopDisk.tells c.args.disks.now.second)
      (settled_pair is_record c.args.node.now.pairing (image_now (g.D.Disk.view c.args.disks.now.first))
      (image_now (g.D.Disk.view c.args.disks.now.second)) c.requires.stands.pair).0
      (settled_pair is_record c.args.node.now.pairing (image_now (g.D.Disk.view c.args.disks.now.first))
      (image_now (g.D.Disk.view c.args.disks.now.second)) c.requires.stands.pair).1 (λ x y stands. inl stands) c.requires.stands.cells;
  risen = search rules;
  risen_other =
      λ full within. absurd (full.0
      (ap (λ (o : _). event_changes (here_of c.args.node.now) (circuit_cell c.args.node.now) c.args.circuit.now (option_copied o)) c.in-None.is));
  counts = λ shut. standing_counts is_record c.args.node.now.pairing (fill_of c.args.stopping) (image_now (g.D.Disk.view c.args.disks.now.first))
      (image_now (g.D.Disk.view c.args.disks.now.second)) c.requires.stands.pair;
  onward = search rules;
}

pub returns-in-Some : goal.returns-in-Some
returns-in-Some g c =
    subst (λ (xs : List Change). StopsArmed g.D.Disk.view c.args.circuit.now xs c.args.stopping c.step_armed.result c.args.node.now c.args.disks.now
    c.step_armed.new.disks)
    (sym (ap (λ (o : _). event_changes (here_of c.args.node.now) (circuit_cell c.args.node.now) c.args.circuit.now
    (option_copied o)) c.in-Some.is)) c.step_armed.ensures
