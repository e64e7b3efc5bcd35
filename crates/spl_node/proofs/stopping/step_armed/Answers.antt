use Rattle.std.proofs.Common.{◌≡◌, ◌≢◌, inl, inr, ⊎_elim, ◌≤◌, [], Err, refl, ap, arith, rules}
use Rattle.spl_edge.specs.Devices.{image_now, pair_view}
use Rattle.spl_journal.specs.{Journals.end_of, Records.sized}
use Rattle.spl_snapshot.specs.{Counting.{chosen, PairLeaves}, Pairs.{is_second, journal_in}}
use Rattle.spl_wire.specs.Grouping.{record_of}
use Rattle.spl_cell_rules.specs.{Plans.plan_of, Cells.site_at}
use Rattle.spl_node.specs.{Kept.cells_after, Records.{is_record, record_bytes}, Stands.{StandFor, here_of, circuit_cell}, Stopping.{cells_stopped, fill_of}}
use Rattle.spl_node.{specs.Stopping.{keeps, passing}, proofs.{Counting.{shut_other, told_counts, went_on_counts}, Disks.settled_pair, Events.disk_only}}
use Rattle.spl_node.proofs.{Events.no_error, Halting.{after_cells, append_stopped, four_kept, four_pass, four_passed, has_some, is_armed, none_of_four}}
use Rattle.spl_node.proofs.{Halting.{none_or_some, one_of_eight, picks_left, some_rose, stand_then}, Leaving.step_leaves}
use Rattle.spl_node.proofs.stopping.step_armed.Goals as goal

pub returns-in-Ok : goal.returns-in-Ok
returns-in-Ok g c = record {
  tells = search rules;
  left =
      picks_left (fill_of c.args.stopping) (here_of c.args.node.now)
      (cells_after (here_of c.args.node.now) (circuit_cell c.args.node.now) c.args.circuit.now c.args.event.now)
      (cells_stopped (here_of c.args.node.now) (circuit_cell c.args.node.now) c.args.circuit.now
      (plan_of (site_at (here_of c.args.node.now) c.args.circuit.now) (circuit_cell c.args.node.now c.args.circuit.now) c.args.event.now).changes
      (keeps c.args.stopping)) (g.D.Disk.view c.step.new.disks.first).image_at (g.D.Disk.view c.step.new.disks.second).image_at
      (g.D.Disk.view c.step.new.disks.first).moment (g.D.Disk.view c.step.new.disks.second).moment
      (after_cells (here_of c.args.node.now) c.args.circuit.now (circuit_cell c.args.node.now) c.args.event.now (keeps c.args.stopping)
      (⊎_elim (λ (none : (plan_of (site_at (here_of c.args.node.now) c.args.circuit.now)
      (circuit_cell c.args.node.now c.args.circuit.now) c.args.event.now).changes ≡ []). inr none)
      (λ (some : (plan_of (site_at (here_of c.args.node.now) c.args.circuit.now)
      (circuit_cell c.args.node.now c.args.circuit.now) c.args.event.now).changes ≢ []). inl
      (four_kept c.args.stopping (g.D.Disk.view (chosen (is_second c.args.node.now.pairing) c.args.disks.now.first c.args.disks.now.second)).armed
      (g.D.Disk.view (chosen (is_second c.args.node.now.pairing) c.args.disks.now.first c.args.disks.now.second)).moment c.requires.armed
      c.requires.calls (four_passed _ _ _ _ _ refl (c.in-Ok.ensures.calls.by_calls some))))
      (none_or_some (plan_of (site_at (here_of c.args.node.now) c.args.circuit.now)
      (circuit_cell c.args.node.now c.args.circuit.now) c.args.event.now).changes)))
      (stand_then (here_of c.args.node.now) (circuit_cell c.args.node.now) (image_now (g.D.Disk.view c.args.disks.now.first))
      (image_now (g.D.Disk.view c.args.disks.now.second))
      (PairLeaves (pair_view g.D.Disk.view c.step.new.disks) (pair_view g.D.Disk.view c.step.new.disks)
      (StandFor (here_of c.args.node.now) (cells_after (here_of c.args.node.now) (circuit_cell c.args.node.now) c.args.circuit.now c.args.event.now)))
      (g.met.D.StopDisk.tells c.args.disks.now.first)
      (g.met.D.StopDisk.tells c.args.disks.now.second) c.requires.stands.cells c.in-Ok.ensures.leaves.after);
  leaves = step_leaves (here_of c.args.node.now) (circuit_cell c.args.node.now) c.args.circuit.now c.args.event.now (is_second c.args.node.now.pairing)
      (image_now (g.D.Disk.view c.args.disks.now.first)) (image_now (g.D.Disk.view c.args.disks.now.second))
      (g.D.Disk.view c.step.new.disks.first).image_at (g.D.Disk.view c.step.new.disks.second).image_at (g.D.Disk.view c.args.disks.now.first).moment
      (g.D.Disk.view c.step.new.disks.first).moment (g.D.Disk.view c.args.disks.now.second).moment (g.D.Disk.view c.step.new.disks.second).moment
      (g.met.D.StopDisk.tells c.args.disks.now.first)
      (g.met.D.StopDisk.tells c.args.disks.now.second) c.step.ensures.ends.onward.first.later c.step.ensures.ends.onward.second.later
      c.requires.stands.cells c.step.ensures.leaves.any_moment;
  risen =
      λ some few.
      let four : 4 ≤ passing c.args.stopping =
      four_pass c.args.stopping (g.D.Disk.view (chosen (is_second c.args.node.now.pairing) c.args.disks.now.first c.args.disks.now.second)).armed
      (g.D.Disk.view (chosen (is_second c.args.node.now.pairing) c.args.disks.now.first c.args.disks.now.second)).moment c.requires.armed
      c.requires.calls (four_passed _ _ _ _ _ refl (c.in-Ok.ensures.calls.by_calls some)) in
      absurd (omega (arith, four, few));
  risen_other =
      λ full within. ⊎_elim (λ none. absurd (no_error none)) (λ rose. rose)
      (c.in-Ok.ensures.calls.risen full.0 full.1.room full.1.epoch
      (record {
        armed = is_armed c.args.stopping
            (g.D.Disk.view (chosen (is_second c.args.node.now.pairing) c.args.disks.now.first c.args.disks.now.second)).armed
            (g.D.Disk.view (chosen (is_second c.args.node.now.pairing) c.args.disks.now.first c.args.disks.now.second)).moment c.requires.armed;
        none = none_of_four c.args.stopping (g.D.Disk.view (chosen (is_second c.args.node.now.pairing) c.args.disks.now.first c.args.disks.now.second)).armed
            (g.D.Disk.view (chosen (is_second c.args.node.now.pairing) c.args.disks.now.first c.args.disks.now.second)).moment c.requires.armed within;
        one = one_of_eight c.args.stopping (g.D.Disk.view (chosen (is_second c.args.node.now.pairing) c.args.disks.now.second c.args.disks.now.first)).armed
            (g.D.Disk.view (chosen (is_second c.args.node.now.pairing) c.args.disks.now.second c.args.disks.now.first)).moment c.requires.other within;
      }));
  counts =
      λ shut. went_on_counts is_record c.step.new.self.pairing (fill_of c.args.stopping)
      (g.D.Disk.view (chosen (is_second c.args.node.now.pairing) c.args.disks.now.second c.args.disks.now.first)).armed
      (g.D.Disk.view (chosen (is_second c.args.node.now.pairing) c.args.disks.now.second c.args.disks.now.first)).moment
      (is_second c.args.node.now.pairing) (image_now (g.D.Disk.view c.step.new.disks.first)) (image_now (g.D.Disk.view c.step.new.disks.second))
      (shut_other c.args.stopping (g.D.Disk.view (chosen (is_second c.args.node.now.pairing) c.args.disks.now.second c.args.disks.now.first)).armed
      (g.D.Disk.view (chosen (is_second c.args.node.now.pairing) c.args.disks.now.second c.args.disks.now.first)).moment c.requires.other shut)
      c.in-Ok.ensures.leaves.pair c.in-Ok.ensures.calls.passed;
  onward = search rules;
}

pub returns-in-Err-Disk : goal.returns-in-Err-Disk
returns-in-Err-Disk g c = record {
  tells = has_some (plan_of (site_at (here_of c.args.node.now) c.args.circuit.now)
      (circuit_cell c.args.node.now c.args.circuit.now) c.args.event.now).changes
      (some_rose (λ (d : _). (g.D.Disk.view d.first).faults) (λ (d : _). (g.D.Disk.view d.second).faults) c.args.disks.now c.step.new.disks
      (plan_of (site_at (here_of c.args.node.now) c.args.circuit.now)
      (circuit_cell c.args.node.now c.args.circuit.now) c.args.event.now).changes c.step.ensures.calls.no_calls
      (c.in-Err-Disk.ensures.ends.failed (ap Err c.in-Err-Disk.field-0-is)));
  left =
      let some : (plan_of (site_at (here_of c.args.node.now) c.args.circuit.now)
      (circuit_cell c.args.node.now c.args.circuit.now) c.args.event.now).changes ≢ [] = some_rose (λ (d : _). (g.D.Disk.view d.first).faults)
      (λ (d : _). (g.D.Disk.view d.second).faults) c.args.disks.now c.step.new.disks
      (plan_of (site_at (here_of c.args.node.now) c.args.circuit.now)
      (circuit_cell c.args.node.now c.args.circuit.now) c.args.event.now).changes c.step.ensures.calls.no_calls
      (c.in-Err-Disk.ensures.ends.failed (ap Err c.in-Err-Disk.field-0-is)) in
      append_stopped c.args.stopping (here_of c.args.node.now) c.args.circuit.now (circuit_cell c.args.node.now) c.args.event.now g.D.Disk.view
      (is_second c.args.node.now.pairing) c.args.disks.now.first c.args.disks.now.second c.step.new.disks.first c.step.new.disks.second
      (end_of (journal_in c.args.node.now.pairing))
      (sized (record_bytes (record_of c.args.circuit.now
      (plan_of (site_at (here_of c.args.node.now) c.args.circuit.now) (circuit_cell c.args.node.now c.args.circuit.now) c.args.event.now).changes)))
      c.requires.armed c.requires.calls
      (settled_pair is_record c.args.node.now.pairing (image_now (g.D.Disk.view c.args.disks.now.first))
      (image_now (g.D.Disk.view c.args.disks.now.second)) c.requires.stands.pair).0
      (settled_pair is_record c.args.node.now.pairing (image_now (g.D.Disk.view c.args.disks.now.first))
      (image_now (g.D.Disk.view c.args.disks.now.second)) c.requires.stands.pair).1 (g.met.D.StopDisk.tells c.args.disks.now.first)
      (g.met.D.StopDisk.tells c.args.disks.now.second) c.requires.stands.cells (c.in-Err-Disk.ensures.calls.stopped (ap Err c.in-Err-Disk.field-0-is))
      (ap Err c.in-Err-Disk.field-0-is) (c.in-Err-Disk.ensures.calls.by_calls some);
  leaves = step_leaves (here_of c.args.node.now) (circuit_cell c.args.node.now) c.args.circuit.now c.args.event.now (is_second c.args.node.now.pairing)
      (image_now (g.D.Disk.view c.args.disks.now.first)) (image_now (g.D.Disk.view c.args.disks.now.second))
      (g.D.Disk.view c.step.new.disks.first).image_at (g.D.Disk.view c.step.new.disks.second).image_at (g.D.Disk.view c.args.disks.now.first).moment
      (g.D.Disk.view c.step.new.disks.first).moment (g.D.Disk.view c.args.disks.now.second).moment (g.D.Disk.view c.step.new.disks.second).moment
      (g.met.D.StopDisk.tells c.args.disks.now.first)
      (g.met.D.StopDisk.tells c.args.disks.now.second) c.step.ensures.ends.onward.first.later c.step.ensures.ends.onward.second.later
      c.requires.stands.cells c.step.ensures.leaves.any_moment;
  risen = search rules;
  risen_other =
      λ full within. ⊎_elim (λ none. absurd (disk_only c.in-Err-Disk.field-0 c.in-Err-Disk.field-0-is none)) (λ rose. rose)
      (c.in-Err-Disk.ensures.calls.risen full.0 full.1.room full.1.epoch
      (record {
        armed = is_armed c.args.stopping
            (g.D.Disk.view (chosen (is_second c.args.node.now.pairing) c.args.disks.now.first c.args.disks.now.second)).armed
            (g.D.Disk.view (chosen (is_second c.args.node.now.pairing) c.args.disks.now.first c.args.disks.now.second)).moment c.requires.armed;
        none = none_of_four c.args.stopping (g.D.Disk.view (chosen (is_second c.args.node.now.pairing) c.args.disks.now.first c.args.disks.now.second)).armed
            (g.D.Disk.view (chosen (is_second c.args.node.now.pairing) c.args.disks.now.first c.args.disks.now.second)).moment c.requires.armed within;
        one = one_of_eight c.args.stopping (g.D.Disk.view (chosen (is_second c.args.node.now.pairing) c.args.disks.now.second c.args.disks.now.first)).armed
            (g.D.Disk.view (chosen (is_second c.args.node.now.pairing) c.args.disks.now.second c.args.disks.now.first)).moment c.requires.other within;
      }));
  counts =
      λ shut. told_counts (fill_of c.args.stopping) (is_second c.args.node.now.pairing) (image_now (g.D.Disk.view c.args.disks.now.first))
      (image_now (g.D.Disk.view c.args.disks.now.second)) (image_now (g.D.Disk.view c.step.new.disks.first))
      (image_now (g.D.Disk.view c.step.new.disks.second)) (g.met.D.StopDisk.tells c.args.disks.now.first) (g.met.D.StopDisk.tells c.args.disks.now.second)
      (c.in-Err-Disk.ensures.calls.counts (ap Err c.in-Err-Disk.field-0-is) (fill_of c.args.stopping)
      (shut_other c.args.stopping (g.D.Disk.view (chosen (is_second c.args.node.now.pairing) c.args.disks.now.second c.args.disks.now.first)).armed
      (g.D.Disk.view (chosen (is_second c.args.node.now.pairing) c.args.disks.now.second c.args.disks.now.first)).moment c.requires.other shut));
  onward = search rules;
}

-- ---- whatever the result

pub returns-in-Err : goal.returns-in-Err
returns-in-Err g c = record {
  tells = search rules;
  left = search rules;
  leaves = step_leaves (here_of c.args.node.now) (circuit_cell c.args.node.now) c.args.circuit.now c.args.event.now (is_second c.args.node.now.pairing)
      (image_now (g.D.Disk.view c.args.disks.now.first)) (image_now (g.D.Disk.view c.args.disks.now.second))
      (g.D.Disk.view c.step.new.disks.first).image_at (g.D.Disk.view c.step.new.disks.second).image_at (g.D.Disk.view c.args.disks.now.first).moment
      (g.D.Disk.view c.step.new.disks.first).moment (g.D.Disk.view c.args.disks.now.second).moment (g.D.Disk.view c.step.new.disks.second).moment
      (g.met.D.StopDisk.tells c.args.disks.now.first)
      (g.met.D.StopDisk.tells c.args.disks.now.second) c.step.ensures.ends.onward.first.later c.step.ensures.ends.onward.second.later
      c.requires.stands.cells c.step.ensures.leaves.any_moment;
  risen = search rules;
  risen_other = search rules;
  counts = search rules;
  onward = search rules;
}
